use Rattle.std.proofs.Common.{◌≡◌, ◌++◌, take}
use Rattle.serde_json.specs.Written.{compact_text}
use Rattle.cg_json.specs.Compact.{led}
use Rattle.cg_json.proofs.compact.append_led.Given as goal

abbrev pub invariant-loop-value : goal.invariant-loop-value
invariant-loop-value g l = l.out.items ≡ l.initial.out.items ++ led (λ x. compact_text (g.T.Json.tree_of x)) (take l.value-index l.values)
