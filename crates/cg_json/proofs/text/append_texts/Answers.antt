use Rattle.std.proofs.Common.{◌∙◌, append_assoc}
use Rattle.std.proofs.lemmas.Result.{IfOk-weaker}
use Rattle.cg_json.specs.CompactLaws.{array_text}
use Rattle.cg_json.specs.Json.{text_data}
use Rattle.cg_json.proofs.text.append_texts.Goals as goal

pub returns : goal.returns
returns c =
    rw (array_text text_data c.args.lines.now) (IfOk-weaker c.append_byte-2.result _ _
    (λ u h. h ∙ rw (c.in_ok-append_joined_texts.ensures, c.in_ok-append_byte.ensures) (simp append_assoc)) c.append_byte-2.ensures)
