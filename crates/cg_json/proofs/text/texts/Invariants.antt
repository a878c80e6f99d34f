use Rattle.std.proofs.Common.{◌≡◌, ◌++◌, map}
use Rattle.serde_json.specs.View.{view}
use Rattle.cg_json.specs.Json.{text_data}
use Rattle.cg_json.proofs.text.texts.Given as goal

abbrev pub invariant-loop-line : goal.invariant-loop-line
invariant-loop-line l = map view l.list.items ++ map text_data l.line-iterator ≡ map text_data l.lines
