use Rattle.std.proofs.Common.{◌≡◌, sym, ◌∙◌, length, ap, not, true≢false, vec_len, arith}
use Rattle.std.proofs.lemmas.Bool.{eqb-true, eqb-false}
use Rattle.std.proofs.lemmas.List.{nil_from_length}
use Rattle.cg_snap.specs.Plan.{Plan}
use Rattle.cg_snap.proofs.Finishes.{items_cut}
use Rattle.cg_snap.proofs.PlanStates.{no_line}
use Rattle.cg_snap.proofs.RecordPlaces.{items_whole, never_decides, yes_decides}
use Rattle.cg_snap.proofs.record_place.Decoder+PlanRecords.can_finish.Goals as goal

pub returns-then-is_none : goal.returns-then-is_none
returns-then-is_none c = λ p items h.
    let s = c.args.self.now.records in
    yes_decides c.is_empty.result (Plan s.profile p)
    (λ e. items_whole s.profile s.begun.items s.present p items h.state.at (no_line s.present (c.is_none.ensures ∙ ap not c.if-is_none.true))
    (let z : vec_len s.begun ≡ 0 = eqb-true _ _ (sym c.is_empty.ensures ∙ e) in nil_from_length s.begun.items (omega (arith, z, s.begun.ok.0))))
    (λ e. items_cut s.profile s.begun.items s.present p items (λ none n. let z : length s.begun.items ≡ 0 = ap length n in eqb-false _ _ (sym c.is_empty.ensures ∙ e) (omega (arith, z, s.begun.ok.0))) h.state.at)

pub returns-else-is_none : goal.returns-else-is_none
returns-else-is_none c = λ p items h.
    let s = c.args.self.now.records in
    rw c.if-is_none.false (never_decides (Plan s.profile p) (items_cut s.profile s.begun.items s.present p items (λ none. absurd (true≢false (sym (c.is_none.ensures ∙ ap not c.if-is_none.false) ∙ none))) h.state.at))
