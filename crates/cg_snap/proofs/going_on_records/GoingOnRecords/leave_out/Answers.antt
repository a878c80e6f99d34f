use Rattle.std.proofs.Common.{◌≡◌, ◌++◌, ◌∷◌, [], ◌<◌, Bool, true, false, List, Option, Some, refl, sym, ap, subst, ◌∙◌, append-nil, arith, inr}
use Rattle.std.specs.Bool.{MatchBool}
use Rattle.cg_value.specs.Entry.{EntryData}
use Rattle.cg_snap.specs.GoingOn.{IsAtFault, Told, told_entry}
use Rattle.cg_snap.specs.DecoderState.{HasTakenRecords}
use Rattle.cg_snap.specs.GoingOnState.{HasTold, IsPathAt}
use Rattle.cg_snap.specs.declared.going_on.LeftOut.{LeftOut}
use Rattle.cg_snap.specs.declared.going_on_records.GoingOnRecords.{GoingOnRecords}
use Rattle.cg_snap.specs.declared.snapshot_records.SnapshotRecords.{SnapshotRecords}
use Rattle.cg_snap.proofs.GoingOnLeft.{begun_alone, left_again, left_other, left_own, room_is}
use Rattle.cg_snap.proofs.going_on_records.GoingOnRecords.leave_out.Goals as goal
use Rattle.cg_snap.proofs.going_on_records.GoingOnRecords.leave_out.Goals.{in-None, in-Some+in_ok-kept-in-Some, then-of_entry, else-of_entry}

when_true : (P Q : Type 0) (b : Bool) → MatchBool b P Q → b ≡ true → P
when_true P Q true m e = m
when_true P Q false m e = absurd (cc)

when_false : (P Q : Type 0) (b : Bool) → MatchBool b P Q → b ≡ false → Q
when_false P Q true m e = absurd (cc)
when_false P Q false m e = m

pub returns-then-are_same-clause-left : goal.returns-then-are_same-clause-left
returns-then-are_same-clause-left c profile limits p told a m l h stop stops is at =
    let s = c.args.self.now in
    let t = c.begin_block.new.self in
    let e = c.begin_block.ensures in
    let w = c.is_within_line-is_in_line in
    let same = c.if-are_same.ensures in
    left_again profile limits s t p told h m c.args.byte (omega (arith, c.ranges.byte.fits)) w.result (when_true _ _ w.result w.ensures) (when_false _ _ w.result w.ensures) e.passing (e.profile ∙ a) (e.limits ∙ l) (rw l at e.meter) (e.fresh profile a)
    same.0 c.in_ok-path.path c.has_room.result c.is_of_entry-of_entry.result e.left_out same.1 same.2 c.in_ok-path.ensures

pub returns-clause-left : goal.returns-clause-left
returns-clause-left c profile limits p told a m l h stop stops is at =
    let s = c.args.self.now in
    let t = c.begin_block-2.new.self in
    let e = c.begin_block-2.ensures in
    let w = c.is_within_line-is_in_line in
    let of = c.is_of_entry-of_entry in
    let kept : c.match-path-2.kept ≡ c.in_ok-path.path = elim c.match-path-2.branch [
      | in-None v ↦ v.kept-is ∙ sym v.in-None.is
      | in-Some+in_ok-kept-in-Some v ↦ v.kept-is ∙ (v.in_ok-kept-in-Some.ensures ∙ (ap Some v.as_slice.ensures ∙ sym v.in-Some.is))
    ] in
    let profile_is : c.if-of_entry.self.block.profile ≡ profile = elim c.if-of_entry.branch [
      | then-of_entry v ↦ ap (λ (r : GoingOnRecords). r.block.profile) v.self-is ∙ a
      | else-of_entry v ↦ ap (λ (r : GoingOnRecords). r.block.profile) v.self-is ∙ (v.end_entry-entry.ensures.profile ∙ a)
    ] in
    let limits_is : c.if-of_entry.self.limits ≡ limits = elim c.if-of_entry.branch [
      | then-of_entry v ↦ ap (λ (r : GoingOnRecords). r.limits) v.self-is ∙ l
      | else-of_entry v ↦ ap (λ (r : GoingOnRecords). r.limits) v.self-is ∙ l
    ] in
    let out : LeftOut = record { at = c.args.at; path = c.in_ok-path.path; cause = c.args.cause } in
    let small : c.args.byte < 256 = omega (arith, c.ranges.byte.fits) in
    let taken : c.replace-records.result ≡ c.if-of_entry.self.block = c.replace-records.ensures.value in
    let new_profile : c.replace-records.new.dest.profile ≡ profile = ap (λ (r : SnapshotRecords). r.profile) c.replace-records.ensures.after ∙ (c.new.ensures.profile ∙ profile_is) in
    let along = e.fresh profile new_profile in
    let is_path : (f : Bool) → of.result ≡ f → IsPathAt s.block.begun.items c.args.byte c.has_room.result s.block.present f c.in_ok-path.path =
    λ f z. subst (λ (x : Bool). IsPathAt s.block.begun.items c.args.byte c.has_room.result s.block.present x c.in_ok-path.path) z c.in_ok-path.ensures in
    elim c.if-of_entry.branch [
      | then-of_entry v ↦
          let left = left_own profile limits s t p told h m c.args.byte small w.result (when_true _ _ w.result w.ensures) (when_false _ _ w.result w.ensures) e.passing (e.profile ∙ new_profile) (e.limits ∙ limits_is) (rw limits_is at e.meter) along
          stop c.args.cause stops is out at refl (e.left_out ∙ kept) s.block.present refl c.has_room.result (when_true _ _ of.result of.ensures v.if-of_entry.true) (is_path true v.if-of_entry.true) in (
            subst (λ (d : Option EntryData). HasTold t profile limits (p ++ c.args.byte ∷ []) (told ++ (told_entry d ++ inr out ∷ []))) (sym v.entry-is) left.0,
            (
              h.block,
              c.args.byte,
              subst (λ (d : Option EntryData). IsAtFault profile limits (p ++ c.args.byte ∷ []) (told ++ told_entry d) out h.block c.args.byte) (sym v.entry-is)
                  (subst (λ (u : List Told). IsAtFault profile limits (p ++ c.args.byte ∷ []) u out h.block c.args.byte) (sym (append-nil told)) left.1),
              subst (λ (r : SnapshotRecords). HasTakenRecords r profile h.block []) (sym (taken ∙ ap (λ (r : GoingOnRecords). r.block) v.self-is)) h.along.state,
            ),
          )
      | else-of_entry v ↦
          let not = when_false _ _ of.result of.ensures v.if-of_entry.false in
          let room = room_is profile limits s t p told h m c.args.byte small w.result (when_true _ _ w.result w.ensures) (when_false _ _ w.result w.ensures) e.passing (e.profile ∙ new_profile) (e.limits ∙ limits_is) (rw limits_is at e.meter) along
          stop c.args.cause stops is out at refl (e.left_out ∙ kept) s.block.present c.has_room.result refl not c.has_room.ensures in
          let left = left_other profile limits s t p told h m c.args.byte small w.result (when_true _ _ w.result w.ensures) (when_false _ _ w.result w.ensures) e.passing (e.profile ∙ new_profile) (e.limits ∙ limits_is) (rw limits_is at e.meter) along
          stop c.args.cause stops is out at refl (e.left_out ∙ kept) s.block.present v.end_entry-entry.result refl c.has_room.result not room (is_path false v.if-of_entry.false) c.if-are_same.ensures v.end_entry-entry.ensures.ended in
          let block = taken ∙ ap (λ (r : GoingOnRecords). r.block) v.self-is in
          let ends = v.end_entry-entry.ensures in (
            subst (λ (d : Option EntryData). HasTold t profile limits (p ++ c.args.byte ∷ []) (told ++ (told_entry d ++ inr out ∷ []))) (sym v.entry-is) left.0,
            (
              s.block.begun.items,
              c.args.byte,
              subst (λ (d : Option EntryData). IsAtFault profile limits (p ++ c.args.byte ∷ []) (told ++ told_entry d) out s.block.begun.items c.args.byte) (sym v.entry-is) left.1,
              begun_alone c.replace-records.result profile s.block.begun.items (ap (λ (r : SnapshotRecords). r.profile) block ∙ (ends.profile ∙ a)) (ap (λ (r : SnapshotRecords). r.begun.items) block ∙ ends.begun) (ap (λ (r : SnapshotRecords). r.present) block ∙ ends.none) left.2,
            ),
          )
    ]
