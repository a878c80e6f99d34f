use Rattle.std.proofs.Common.{◌∙◌, append_assoc}
use Rattle.std.proofs.lemmas.Result.{IfOk-weaker}
use Rattle.cg_json.specs.CompactLaws.{weights_text}
use Rattle.cg_json.proofs.devices.append_weights.Goals as goal

pub returns : goal.returns
returns c =
    rw (weights_text c.args.default c.args.lines.now) (IfOk-weaker c.append_byte.result _ _
    (λ u h. h ∙ rw (c.in_ok-append_array.ensures, c.in_ok-append_bytes.ensures.added, c.in_ok-append_labelled.ensures) (simp append_assoc)) c.append_byte.ensures)
