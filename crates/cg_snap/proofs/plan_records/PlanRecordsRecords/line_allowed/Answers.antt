use Rattle.std.proofs.Common.{inl, inr, arith}
use Rattle.cg_snap.proofs.PlanStates.{item_line_next, item_next_line, item_path_byte, items_line, items_path}
use Rattle.cg_snap.proofs.plan_records.PlanRecordsRecords.line_allowed.Goals as goal

pub returns-in-Some : goal.returns-in-Some
returns-in-Some c form p items h byte =
    let s = c.args.self.now in
    let l = items_line form s.begun.items s.present c.in-Some.writing p items c.in-Some.is h.at in
    let same = c.allowed.ensures l.kind l.line l.takes byte in
    (λ k. item_next_line form s.begun.items c.in-Some.writing p items byte l (same.0 k), λ v. same.1 (item_line_next form s.begun.items c.in-Some.writing p items byte l v))

pub returns-in-None : goal.returns-in-None
returns-in-None c form p items h byte next =
    let s = c.args.self.now in
    elim (item_path_byte form s.begun.items p items byte (items_path form s.begun.items s.present p items c.in-None.is h.at) next) [ inl e ↦ omega (arith, e) | inr q ↦ q.1 ]
