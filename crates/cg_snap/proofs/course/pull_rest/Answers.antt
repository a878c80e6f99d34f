use Rattle.std.proofs.Common.{ap, arith, length}
use Rattle.std.proofs.lemmas.List.{length-drop}
use Rattle.cg_snap.proofs.Courses.{moved_rest, rest_piece}
use Rattle.cg_snap.proofs.course.pull_rest.Goals as goal

pub returns-clause-pulled : goal.returns-clause-pulled
returns-clause-pulled g c = λ form p es h.
    rest_piece (g.R.Records.stream form) c.pull-used.new.records c.pull-used.new.meter p c.args.piece.now c.split_at.result.1.now es c.args.at c.pull-used.result.used c.split_at.ensures.back c.requires c.pull-used.result.what
    (c.pull-used.ensures.pulled form _ es h)

pub returns-clause-progress : goal.returns-clause-progress
returns-clause-progress g c = moved_rest _ _ c.args.at c.pull-used.result.used c.pull-used.result.what (omega (arith, c.requires, ap length c.split_at.ensures.back, length-drop c.args.at c.args.piece.now)) c.pull-used.ensures.progress
