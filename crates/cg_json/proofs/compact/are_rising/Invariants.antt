use Rattle.std.proofs.Common.{◌≡◌, Less}
use Rattle.std.specs.Cmp.Lexicographic.{slice_cmp}
use Rattle.std.specs.List.{AllAdjacentBelow}
use Rattle.std.specs.Ordering.{nat_cmp}
use Rattle.cg_json.proofs.compact.are_rising.Given as goal

abbrev pub invariant-loop-i : goal.invariant-loop-i
invariant-loop-i g l = AllAdjacentBelow (λ x y. slice_cmp nat_cmp (g.T.Member.key_of x) (g.T.Member.key_of y) ≡ Less) l.members l.i
