use Rattle.std.proofs.Common.{arith}
use Rattle.std.proofs.lemmas.Bool.{eqb-true}
use Rattle.cg_snap.proofs.PathRuns.{line_searched}
use Rattle.cg_snap.proofs.path.line_length.Goals as goal

pub returns-in-Some : goal.returns-in-Some
returns-in-Some c = record {
  within = omega (arith, c.in-Some.ensures.0.high);
  plain = line_searched c.args.bytes.now c.in-Some.newline c.in-Some.ensures.0.before;
  ends = λ lt. eqb-true _ _ c.in-Some.ensures.1;
}

pub returns-in-None : goal.returns-in-None
returns-in-None c = record {
  within = omega arith;
  plain = line_searched c.args.bytes.now _ c.in-None.ensures;
  ends = λ lt. absurd (omega (arith, lt));
}
