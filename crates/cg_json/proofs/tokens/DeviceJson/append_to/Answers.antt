use Rattle.std.proofs.Common.{◌∙◌, append_assoc, arith}
use Rattle.std.proofs.lemmas.Result.{IfOk-weaker}
use Rattle.cg_json.specs.CompactLaws.{device_text}
use Rattle.cg_json.proofs.tokens.DeviceJson.append_to.Goals as goal

pub returns : goal.returns
returns c =
    rw (device_text c.args.self.now (omega arith) (omega arith)) (IfOk-weaker c.append_byte-3.result _ _
    (λ u h. h ∙ rw (c.in_ok-append_to-2.ensures, c.in_ok-append_byte-2.ensures, c.in_ok-append_to.ensures, c.in_ok-append_byte.ensures) (simp append_assoc)) c.append_byte-3.ensures)
