use Rattle.std.proofs.Common.{◌<◌, ◌≤◌, length, take, length-take, arith}
use Rattle.cg_text.specs.RangesState.{number_rest}
use Rattle.cg_text.specs.RangesLaws.{run_digits}
use Rattle.cg_text.specs.ListLaws.{list_digits}
use Rattle.cg_text.proofs.ranges.RangesTextSteps.take_run.Goals as goal

pub returns-in-Ok-clause-follows : goal.returns-in-Ok-clause-follows
returns-in-Ok-clause-follows c =
    let s = c.args.self.now in
    let n = c.push_digits-count.result in
    let new = c.push_digits-count.new.self in
    let run = take n c.args.bytes.now in
    let f = c.push_digits-count.ensures.follows in
    let o = c.in-Ok.ensures.opened in
    let within : n ≤ length c.args.bytes.now = c.push_digits-count.ensures.within in
    let many : 0 < length run = omega (arith, length-take n c.args.bytes.now, within, c.if-count-eq0.false) in
    list_digits s.strict s.most (number_rest s.number) (number_rest new) run many (run_digits s.number new run f) f s.ranges.items c.open.new.ranges.items s.low o.0 o.1
