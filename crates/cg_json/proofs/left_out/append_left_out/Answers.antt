use Rattle.std.proofs.Common.{◌∙◌, ◌∷◌, [], codes}
use Rattle.std.proofs.lemmas.Result.{IfOk-weaker}
use Rattle.serde_json.specs.Data.{string}
use Rattle.serde_json.specs.Written.{compact_text}
use Rattle.cg_json.specs.CompactLaws.{left_out_text, three_parts}
use Rattle.cg_json.specs.Json.{given_data, number_data, text_data}
use Rattle.cg_json.proofs.left_out.append_left_out.Goals as goal

pub returns : goal.returns
returns c =
    rw (left_out_text c.args.at c.args.path.now c.args.why.now) (IfOk-weaker c.append_bytes-2.result _ _
    (λ u h. h ∙ rw (c.in_ok-append_string.ensures, c.in_ok-append_bytes.ensures.added, c.in_ok-append_labelled-2.ensures, c.in_ok-append_labelled.ensures)
    (three_parts c.args.out.now.items
    (codes "{\"at\":") (compact_text (number_data c.args.at)) (codes ",\"kind\":\"left_out\",\"path\":") (compact_text (given_data text_data c.args.path.now))
    (codes ",\"why\":") (compact_text (string c.args.why.now)) (125 ∷ 10 ∷ []))) c.append_bytes-2.ensures.added)
