use Rattle.std.proofs.Common.{sym, take, ◌∙◌}
use Rattle.cg_snap.proofs.PlanStates.{items_leave, items_line, items_path, never_few, no_line}
use Rattle.cg_snap.proofs.plan_records.PlanRecordsRecords.take.Goals as goal

pub returns-then-is_none-clause-left : goal.returns-then-is_none-clause-left
returns-then-is_none-clause-left c form p items h at =
    let s = c.args.self.now in
    let max = c.args._max_lines in
    let left = rw h.profile_is at c.take_head.ensures.left in
    let none = no_line s.present c.if-is_none.ensures in
    items_leave _ form max p items c.args.bytes.now c.take_head.result.used c.take_head.result.what h.profile_is (left p items none (items_path form s.begun.items s.present p items none h.at) at max)

pub returns-then-is_none-clause-few : goal.returns-then-is_none-clause-few
returns-then-is_none-clause-few c form p items h = never_few c.args._max_lines p (take c.take_head.result.used c.args.bytes.now)

pub returns-in-Some-clause-left : goal.returns-in-Some-clause-left
returns-in-Some-clause-left c form p items h at =
    let s = c.args.self.now in
    let max = c.args._max_lines in
    let left = rw h.profile_is at c.take_line.ensures.left in
    items_leave _ form max p items c.args.bytes.now c.take_line.result.used c.take_line.result.what h.profile_is
    (left p items c.take.ensures.after (items_line form s.begun.items s.present c.in-Some.writing p items (sym c.take.ensures.value ∙ c.in-Some.is) h.at) at max)

pub returns-in-Some-clause-few : goal.returns-in-Some-clause-few
returns-in-Some-clause-few c form p items h = never_few c.args._max_lines p (take c.take_line.result.used c.args.bytes.now)
