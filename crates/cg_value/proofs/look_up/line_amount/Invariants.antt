use Rattle.std.proofs.Common.{◌≡◌, drop}
use Rattle.cg_value.specs.LookUp.{line_amount}
use Rattle.cg_value.proofs.look_up.line_amount.Given as goal

abbrev pub invariant-loop-line : goal.invariant-loop-line
invariant-loop-line l = line_amount l.device l.key l.lines ≡ line_amount l.device l.key (drop l.line-index l.lines)
