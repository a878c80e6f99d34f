use Rattle.std.proofs.Common.{◌≡◌, ◌++◌, length, take, arith}
use Rattle.std.proofs.lemmas.List.{take_all}
use Rattle.cg_join.specs.LinesStateLaws.{through}
use Rattle.cg_join.proofs.lines.LinesSteps.take_run.Goals as goal

pub returns-then-take_line-clause-follows : goal.returns-then-take_line-clause-follows
returns-then-take_line-clause-follows g c =
    let bytes = c.args.bytes.now in
    let all : take (length bytes) bytes ≡ bytes = take_all (length bytes) bytes (omega arith) in
    rw (all, c.in-Some.ensures.cases.0) (c.take_line.ensures.taken c.if-take_line.true)

pub returns-clause-follows : goal.returns-clause-follows
returns-clause-follows g c = λ rest v.
    through (c.take_part.ensures.follows rest v) (c.take_line.ensures.left c.if-take_line.false (take c.take_part.result c.args.bytes.now ++ rest) v)
