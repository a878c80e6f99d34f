use Rattle.std.proofs.Common.{◌∙◌, append_assoc}
use Rattle.std.proofs.lemmas.Result.{IfOk-weaker}
use Rattle.cg_json.specs.CompactLaws.{params_text}
use Rattle.cg_json.proofs.devices.ParamLineJson.append_to.Goals as goal

pub returns : goal.returns
returns c =
    rw (params_text c.args.self.now) (IfOk-weaker c.append_byte.result _ _
    (λ u h. h ∙ rw (c.in_ok-append_labelled-2.ensures, c.in_ok-append_labelled.ensures) (simp append_assoc)) c.append_byte.ensures)
