use Rattle.std.proofs.Common.{◌≡◌, ◌++◌}
use Rattle.serde_json.specs.Written.{compact_text}
use Rattle.cg_json.specs.Compact.{led}
use Rattle.cg_json.specs.Json.{text_data}
use Rattle.cg_json.proofs.text.append_led_texts.Given as goal

abbrev pub invariant-loop-line : goal.invariant-loop-line
invariant-loop-line l = l.out.items ++ led (λ x. compact_text (text_data x)) l.line-iterator ≡ l.initial.out.items ++ led (λ x. compact_text (text_data x)) l.fn.lines
