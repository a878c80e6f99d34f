use Rattle.cg_snap.specs.Laws.{AreApart}
use Rattle.cg_snap.proofs.encode.same_path.Given as goal

abbrev pub invariant-loop-at : goal.invariant-loop-at
invariant-loop-at l = AreApart l.entries l.at
