use Rattle.std.proofs.Common.{◌≡◌, drop}
use Rattle.cg_value.specs.LookUp.{line_weight}
use Rattle.cg_value.proofs.look_up.line_weight.Given as goal

abbrev pub invariant-loop-line : goal.invariant-loop-line
invariant-loop-line l = line_weight l.device l.default l.lines ≡ line_weight l.device l.default (drop l.line-index l.lines)
