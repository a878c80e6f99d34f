-- A byte at fault behind the path of a line that is of another block: it is at fault in that line alone.
use Rattle.std.proofs.Common.{◌≡◌, ℕ, suc, zero, ◌+◌, ◌≤◌, List, [], ◌∷◌, ◌++◌, length, take, refl, sym, ap, subst, ◌∙◌, append_assoc, arith, Option, Some, None, inl, inr, ◌⊎◌}
use Rattle.std.proofs.lemmas.Bool.{cases_lt}
use Rattle.std.proofs.lemmas.List.{length-append, length_push}
use Rattle.cg_text.specs.ListFacts.{push_one}
use Rattle.cg_text.specs.Texts.{Lacks, Next, Viable}
use Rattle.cg_text.specs.Token.{saturated}
use Rattle.cg_value.specs.Entry.{EntryData, IsPath, IsPathByte, ReadsAt}
use Rattle.cg_value.specs.Records.{records}
use Rattle.cg_value.specs.declared.kind.ReadForm.{ReadForm}
use Rattle.cg_value.specs.declared.profile.Profile.{Profile}
use Rattle.cg_snap.specs.Begun.{IsBegun, IsLongRecord}
use Rattle.cg_snap.specs.ClosedLaws.{begun_once}
use Rattle.cg_snap.specs.DecoderState.{HasConsumedInPath, HasConsumedBetween, HasConsumedAPath}
use Rattle.cg_snap.specs.GoingOn.{IsCause}
use Rattle.cg_snap.specs.PathBytes.{ArePathBytes}
use Rattle.cg_snap.specs.Snap.{Snap, SnapText}
use Rattle.cg_snap.specs.SnapStop.{IsManyRecords, IsRecordWhy, IsSnapUnstopped, SnapStopOf}
use Rattle.cg_snap.specs.Stop.{StopsAt, place_of}
use Rattle.cg_snap.specs.StreamStop.{IsLastWhy}
use Rattle.cg_snap.specs.declared.going_on.Cause.{Cause}
use Rattle.cg_snap.specs.declared.going_on.Cause.TheVariants as causes
use Rattle.cg_snap.specs.declared.limits.Limits.{Limits}
use Rattle.cg_snap.specs.declared.present.CurrentEntry.{CurrentEntry}
use Rattle.cg_snap.specs.declared.stop.Stop.{Stop}
use Rattle.cg_snap.specs.declared.stop.Stop.TheVariants as stops
use Rattle.cg_snap.specs.declared.stop.Why.{Why}
use Rattle.cg_snap.proofs.Begins.{is_long, long_is}
use Rattle.cg_snap.proofs.Closes.{path_begun, start_begun}
use Rattle.cg_snap.proofs.GoingOnLines.{lacks_left}
use Rattle.cg_snap.proofs.Joins.{ends_push, push_at, snap_append}
use Rattle.cg_snap.proofs.Nuls.{before_nul, count_some}
use Rattle.cg_snap.proofs.Places.{few_many, is_many, many_path, not_many}
use Rattle.cg_snap.proofs.Runs.{path_few}
use Rattle.cg_snap.proofs.States.{paths_head, paths_nul}
use Rattle.cg_snap.proofs.Steps.{all_both, bytes_no_newline, one_record, path_run, path_viable, present_entry, start_viable}
use Rattle.cg_snap.proofs.Stops.{all_of, room_before, stop_long, stop_many, stop_place, stop_refused, told_place, unstopped_run}

-- A line of which only this part of its path came.
pub start_of : (begun : List ℕ) → ArePathBytes begun → HasConsumedAPath begun begun []
start_of begun h = record { none = refl; bytes = refl; begun_path = h }

pub snoc : (t : List ℕ) → (t ≡ []) ⊎ ((front : List ℕ) × (last : ℕ) × (t ≡ front ++ last ∷ []))
snoc [] = inl refl
snoc (b ∷ t) = elim (snoc t) [
  | inl e ↦ inr ([], b, ap (λ (s : List ℕ). b ∷ s) e)
  | inr s ↦ inr (b ∷ s.0, s.1, ap (λ (u : List ℕ). b ∷ u) s.2)
]

none_told : (n : ℕ) → 0 ≡ saturated n → n ≡ 0
none_told n e = omega (arith, e)

module _ (profile : Profile) where
  -- A NUL behind a path that can be read goes on with a snapshot.
  start_nul : (begun : List ℕ) (k : ReadForm) → IsPath begun → ReadsAt profile begun (Some k) → Viable (Snap profile) (begun ++ 0 ∷ [])
  start_nul begun k g r =
      let o = one_record profile begun k g r in
      record { rest = o.0; whole = (o.1 ∷ [], subst (SnapText profile (o.1 ∷ [])) (sym (append_assoc begun (0 ∷ []) o.0)) o.3) }

  -- What goes on with a stream goes on with the line alone.
  pub line_next : (begun : List ℕ) (o : Option CurrentEntry) (p : List ℕ) (es : List EntryData) (b : ℕ) → HasConsumedBetween profile begun o p es → ArePathBytes begun → Next (Snap profile) p b → Next (Snap profile) begun b
  line_next begun o p es b h a v =
      elim (paths_head profile begun o p es b h v) [
        | inl e ↦
            let k = paths_nul profile begun o p es h (rw e at v) in
            rw e (start_nul begun k.1.0 k.0 k.1.1)
        | inr q ↦ start_viable profile (begun ++ b ∷ []) (begun ++ b ∷ []) [] (start_of (begun ++ b ∷ []) (all_both IsPathByte begun (b ∷ []) a (q, tt)))
      ]

  -- And the other way, where the line is of another path.
  next_line : (begun : List ℕ) (x : CurrentEntry) (p : List ℕ) (es : List EntryData) (b : ℕ) → HasConsumedInPath profile begun x p es → (b ≡ 0 → x.path.items ≡ begun → ⊥) → Next (Snap profile) begun b → Next (Snap profile) p b
  next_line begun x p es b h n v =
      elim (paths_head profile begun None begun [] b (start_of begun h.begun_path) v) [
        | inl e ↦
            let k = paths_nul profile begun None begun [] (start_of begun h.begun_path) (rw e at v) in
            let o = one_record profile begun k.1.0 k.0 k.1.1 in
            let d = present_entry profile begun x p es h in
            let front = push_at profile es h.given x.path.items d.0 h.lines d.1 h.entries d.2 h.other in
            let whole = snap_append profile (es ++ d.0 ∷ []) (o.1 ∷ []) (h.given ++ records x.path.items h.lines) (begun ++ 0 ∷ o.0) front o.3 (ends_push es d.0 o.1.path (λ z. n e (sym d.1 ∙ z ∙ o.2))) in
            let text : (h.given ++ records x.path.items h.lines) ++ (begun ++ 0 ∷ o.0) ≡ (p ++ b ∷ []) ++ o.0 = rw (h.split, e) (simp append_assoc) in
            record { rest = o.0; whole = ((es ++ d.0 ∷ []) ++ o.1 ∷ [], subst (SnapText profile ((es ++ d.0 ∷ []) ++ o.1 ∷ [])) text whole) }
        | inr q ↦ path_viable profile (begun ++ b ∷ []) x (p ++ b ∷ []) es (path_run profile begun (begun ++ b ∷ []) x p es (b ∷ []) (q, tt) refl h)
      ]

  -- With a NUL there are too many records of another path only where there may be none.
  line_many : (begun : List ℕ) (x : CurrentEntry) (p : List ℕ) (es : List EntryData) (b max place : ℕ) → HasConsumedInPath profile begun x p es → (b ≡ 0 → x.path.items ≡ begun → ⊥) →
      IsManyRecords profile max (p ++ b ∷ []) (length p) → IsManyRecords profile max (begun ++ b ∷ []) place
  line_many begun x p es zero max place h n m =
      let r = path_begun profile begun x p es h in
      let good = many_path profile p begun max (length p) r m in
      let count = count_some begun (Some x) in
      let before = before_nul profile begun (Some x) p es count.0 h count.1 good in
      let zero : before.0 ≡ 0 = none_told before.0 (sym (count.1.1 (n refl)) ∙ before.2) in
      let alone = before_nul profile begun None begun [] 0 (start_of begun h.begun_path) refl good in
      elim (cases_lt before.0 max) [
        | inl lt ↦ absurd (few_many profile p begun before.0 max (length p) before.1 lt m)
        | inr le ↦ is_many profile begun begun alone.0 max place alone.1 (omega (arith, le, zero))
      ]
  line_many begun x p es (suc b) max place h n m = absurd (not_many profile p begun (suc b) max (length p) (path_begun profile begun x p es h) (λ e. absurd (cc)) m)

  module _ (limits : Limits) where
    abbrev Unstopped : List ℕ → Type 0
    Unstopped = IsSnapUnstopped profile limits

    -- The record that is begun is no longer than its limit.
    pub begun_room : (p r : List ℕ) → IsBegun p r → Unstopped p → length r ≤ limits.max_record
    begun_room p r h u =
        elim (snoc r) [
          | inl e ↦ omega (arith, ap length e)
          | inr s ↦
              let split : p ≡ (h.front ++ s.0) ++ s.1 ∷ [] = h.split ∙ ap (λ (t : List ℕ). h.front ++ t) s.2 ∙ sym (append_assoc h.front s.0 (s.1 ∷ [])) in
              let begins : IsBegun (h.front ++ s.0) s.0 = record { front = h.front; split = refl; ended = h.ended; plain = lacks_left 10 s.0 (s.1 ∷ []) (subst (Lacks 10) s.2 h.plain) } in
              let lt = room_before (Snap profile) (IsRecordWhy profile) (IsManyRecords profile) limits (h.front ++ s.0) s.0 s.1 begins (subst Unstopped split u) in
              omega (arith, lt, ap length s.2, length_push s.0 s.1)
        ]

    -- Nothing is at fault with the front of a path for which there is room.
    pub start_unstopped : (begun : List ℕ) → ArePathBytes begun → length begun ≤ limits.max_record → length begun ≤ limits.max_stream → Unstopped begun
    start_unstopped begun a room far =
        unstopped_run (Snap profile) (IsRecordWhy profile) (IsManyRecords profile) limits [] [] begun (λ k within. absurd (omega (arith, within))) (start_viable profile begun begun [] (start_of begun a))
        (record { front = []; split = refl; ended = inl refl; plain = tt }) (bytes_no_newline begun a) (path_few profile limits.max_lines [] None [] begun [] (start_of [] tt) tt a) (omega (arith, room)) (omega (arith, far))

    -- A stop that comes with the byte after p.
    pub stops_here : (p : List ℕ) (b : ℕ) (stop : Stop) → Unstopped p → SnapStopOf profile limits (p ++ b ∷ []) stop →
        StopsAt (Snap profile) (IsLastWhy (IsRecordWhy profile)) (IsLongRecord limits.max_record) (IsManyRecords profile limits.max_lines) limits.max_stream (p ++ b ∷ []) (length p) stop
    stops_here p b stop u s =
        let at : place_of stop ≡ length p = stop_place (Snap profile) (IsRecordWhy profile) (IsManyRecords profile) limits p b stop u s in
        let told : place_of stop ≡ s.place = told_place (Snap profile) (IsRecordWhy profile) (IsManyRecords profile) limits (p ++ b ∷ []) s.place stop s.stops in
        subst (λ (k : ℕ). StopsAt (Snap profile) (IsLastWhy (IsRecordWhy profile)) (IsLongRecord limits.max_record) (IsManyRecords profile limits.max_lines) limits.max_stream (p ++ b ∷ []) k stop) (sym told ∙ at) s.stops

    -- What stops a stream with a byte of a line of another path stops that line alone.
    module _ (begun : List ℕ) (x : CurrentEntry) (p : List ℕ) (es : List EntryData) (b : ℕ) (h : HasConsumedInPath profile begun x p es) (n : b ≡ 0 → x.path.items ≡ begun → ⊥) (u : Unstopped p) (far : length p ≤ limits.max_stream) where
      begins : IsBegun p begun
      begins = path_begun profile begun x p es h

      starts : IsBegun begun begun
      starts = start_begun begun begun [] (start_of begun h.begun_path)

      text : (s : List ℕ) → take (length s + 1) (s ++ b ∷ []) ≡ s ++ b ∷ []
      text s = all_of (Snap profile) (IsRecordWhy profile) (IsManyRecords profile) s b

      alone : Unstopped begun
      alone =
          let size : length begun ≤ length p = omega (arith, ap length begins.split, length-append begins.front begun) in
          start_unstopped begun h.begun_path (begun_room p begun begins u) (omega (arith, size, far))

      long_alone : IsLongRecord limits.max_record (p ++ b ∷ []) (length p) → IsLongRecord limits.max_record (begun ++ b ∷ []) (length begun)
      long_alone l = is_long begun begun b limits.max_record (length begun) starts (long_is p begun b limits.max_record (length p) begins l)

      short_alone : (IsLongRecord limits.max_record (p ++ b ∷ []) (length p) → ⊥) → IsLongRecord limits.max_record (begun ++ b ∷ []) (length begun) → ⊥
      short_alone s l = s (is_long p begun b limits.max_record (length p) begins (long_is begun begun b limits.max_record (length begun) starts l))

      next_alone : Next (Snap profile) p b → Next (Snap profile) begun b
      next_alone v = line_next begun (Some x) p es b h h.begun_path v

      refused_alone : (at : ℕ) (why : Why) → SnapStopOf profile limits (p ++ b ∷ []) (stops.Refused at why) → SnapStopOf profile limits (begun ++ b ∷ []) (stops.Refused (length begun) why)
      refused_alone at why s =
          let st = stops_here p b (stops.Refused at why) u s in
          let bad : Next (Snap profile) p b → ⊥ = rw (text p) at st.1 in
          let w : IsLastWhy (IsRecordWhy profile) (p ++ b ∷ []) (length p) why = rw (text p) at st.2 in
          let same = push_one p w.2.front b w.1 w.2.whole in
          let r : w.0 ≡ begun = begun_once p w.0 begun (subst (λ (t : List ℕ). IsBegun t w.0) (sym same.0) w.2.begins) begins in
          stop_refused (Snap profile) (IsRecordWhy profile) (IsManyRecords profile) limits begun b (length begun) why refl alone (λ v. bad (next_line begun x p es b h n v))
          (begun, starts, subst (λ (c : ℕ). IsRecordWhy profile begun c why) (sym same.1) (subst (λ (t : List ℕ). IsRecordWhy profile t w.1 why) r w.3))

      long_stop_alone : (at : ℕ) → SnapStopOf profile limits (p ++ b ∷ []) (stops.TooLong at) → SnapStopOf profile limits (begun ++ b ∷ []) (stops.TooLong (length begun))
      long_stop_alone at s =
          let st = stops_here p b (stops.TooLong at) u s in
          stop_long (Snap profile) (IsRecordWhy profile) (IsManyRecords profile) limits begun b (length begun) refl alone (long_alone (rw (text p) at st.2)) (next_alone (rw (text p) at st.1))

      many_stop_alone : (at : ℕ) → SnapStopOf profile limits (p ++ b ∷ []) (stops.TooMany at) → SnapStopOf profile limits (begun ++ b ∷ []) (stops.TooMany (length begun))
      many_stop_alone at s =
          let st = stops_here p b (stops.TooMany at) u s in
          stop_many (Snap profile) (IsRecordWhy profile) (IsManyRecords profile) limits begun b (length begun) refl alone (short_alone (rw (text p) at st.2))
          (line_many begun x p es b limits.max_lines (length begun) h n (rw (text p) at st.3)) (next_alone (rw (text p) at st.1))

      pub stops_alone : (stop : Stop) (cause : Cause) → SnapStopOf profile limits (p ++ b ∷ []) stop → IsCause cause stop →
          (other : Stop) × SnapStopOf profile limits (begun ++ b ∷ []) other × (place_of other ≡ length begun) × IsCause cause other
      stops_alone stop (causes.Refused why) s c = (stops.Refused (length begun) why, refused_alone c.0 why (subst (SnapStopOf profile limits (p ++ b ∷ [])) c.1 s), refl, (length begun, refl))
      stops_alone stop causes.TooLong s c = (stops.TooLong (length begun), long_stop_alone c.0 (subst (SnapStopOf profile limits (p ++ b ∷ [])) c.1 s), refl, (length begun, refl))
      stops_alone stop causes.TooMany s c = (stops.TooMany (length begun), many_stop_alone c.0 (subst (SnapStopOf profile limits (p ++ b ∷ [])) c.1 s), refl, (length begun, refl))
