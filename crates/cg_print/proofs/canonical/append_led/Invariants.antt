use Rattle.std.proofs.Common.{◌≡◌, ◌++◌, take}
use Rattle.cg_print.specs.Joined.{led}
use Rattle.cg_print.proofs.canonical.append_led.Given as goal

abbrev pub invariant-loop-value : goal.invariant-loop-value
invariant-loop-value g l = l.out.items ≡ l.initial.out.items ++ led l.mark g.T.Canonical.printed (take l.value-index l.values)
