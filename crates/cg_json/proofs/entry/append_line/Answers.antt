use Rattle.std.proofs.Common.{◌∙◌, ◌∷◌, [], codes}
use Rattle.std.proofs.lemmas.Result.{IfOk-weaker}
use Rattle.cg_json.specs.CompactLaws.{entry_text, three_parts}
use Rattle.serde_json.specs.Data.{string}
use Rattle.serde_json.specs.Written.{compact_text}
use Rattle.cg_json.specs.Json.{text_data}
use Rattle.cg_json.specs.Value.{value_data}
use Rattle.cg_json.proofs.entry.append_line.Goals as goal

pub returns : goal.returns
returns c =
    rw (entry_text c.args.entry.now, ← c.path.ensures.path, ← c.value-value.ensures.value, ← c.kind_word.ensures) (IfOk-weaker c.append_bytes-3.result _ _
    (λ u h. h ∙ rw (c.in_ok-append_labelled.ensures, c.in_ok-append_text.ensures, c.in_ok-append_bytes-2.ensures.added, c.in_ok-append_string.ensures, c.in_ok-append_bytes.ensures.added)
    (three_parts c.args.out.now.items
    (codes "{\"kind\":") (compact_text (string c.kind_word.result.now)) (codes ",\"path\":") (compact_text (text_data c.path.result.now))
    (codes ",\"value\":") (compact_text (value_data c.value-value.result.now)) (125 ∷ 10 ∷ []))) c.append_bytes-3.ensures.added)
