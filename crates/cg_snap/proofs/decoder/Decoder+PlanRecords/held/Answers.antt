use Rattle.std.proofs.Common.{ap, arith}
use Rattle.cg_line.specs.SettingReads.{held_of}
use Rattle.cg_snap.specs.PlanDecoder.{held_in_line, plan_held_by}
use Rattle.cg_snap.proofs.PlanStates.{item_line_held}
use Rattle.cg_snap.proofs.decoder.Decoder+PlanRecords.held.Goals as goal

pub returns-in-Some-clause-held : goal.returns-in-Some-clause-held
returns-in-Some-clause-held c = λ p items h.
    let d = c.args.self.now in
    item_line_held d.records.profile d.records.begun.items d.records.present c.in-Some.writing p items
    (plan_held_by d) (held_of c.in-Some.writing.reader) c.in-Some.is h.state.at c.held.ensures.most
    (omega (arith, ap held_in_line c.in-Some.is))
