use Rattle.std.proofs.Common.{◌≡◌, sym, ◌∙◌, length, ap, refl, vec_len, arith}
use Rattle.std.proofs.lemmas.Bool.{eqb-true, eqb-false}
use Rattle.std.proofs.lemmas.List.{nil_from_length}
use Rattle.cg_snap.specs.Snap.{Snap}
use Rattle.cg_snap.proofs.Finishes.{begun_cut, in_line_cut}
use Rattle.cg_snap.proofs.RecordPlaces.{entry_whole, never_decides, no_decides, start_whole}
use Rattle.cg_snap.proofs.snapshot_records.SnapshotRecords.can_finish.Goals as goal

pub returns-then-not-is_empty : goal.returns-then-not-is_empty
returns-then-not-is_empty c = λ profile p es h.
    let s = c.args.self.now in
    never_decides (Snap profile p) (begun_cut profile s.begun.items s.present p es h.at (λ n. let z : length s.begun.items ≡ 0 = ap length n in
    eqb-false _ _ (sym c.is_empty.ensures ∙ c.if-not-is_empty.true) (omega (arith, z, s.begun.ok.0))))

pub returns-in-Some : goal.returns-in-Some
returns-in-Some c = λ profile p es h.
    let s = c.args.self.now in
    let x = c.in-Some.x in
    let empty = let z : vec_len s.begun ≡ 0 = eqb-true _ _ (sym c.is_empty.ensures ∙ c.if-not-is_empty.false) in nil_from_length s.begun.items (omega (arith, z, s.begun.ok.0)) in
    no_decides x.in_line (Snap profile p) (λ e. entry_whole profile s.begun.items s.present p es h.at x c.in-Some.is e empty)
    (λ e. in_line_cut profile s.begun.items s.present x p es c.in-Some.is e h.at)

pub returns-in-None : goal.returns-in-None
returns-in-None c = λ profile p es h.
    let s = c.args.self.now in
    let empty = let z : vec_len s.begun ≡ 0 = eqb-true _ _ (sym c.is_empty.ensures ∙ c.if-not-is_empty.false) in nil_from_length s.begun.items (omega (arith, z, s.begun.ok.0)) in
    (λ t. start_whole profile s.begun.items s.present p es h.at c.in-None.is empty, λ w. refl)
