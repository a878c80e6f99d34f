use Rattle.std.proofs.Common.{◌∙◌, append_assoc}
use Rattle.std.proofs.lemmas.Result.{IfOk-weaker}
use Rattle.cg_json.specs.CompactLaws.{amount_text}
use Rattle.cg_json.proofs.tokens.AmountJson.append_to.Goals as goal

pub returns-in_ok-append_labelled-in-Decimal : goal.returns-in_ok-append_labelled-in-Decimal
returns-in_ok-append_labelled-in-Decimal c =
    rw (c.in-Decimal.is, amount_text c.in-Decimal.hundredths) (IfOk-weaker c.append_byte.result _ _
    (λ u h. h ∙ rw c.in_ok-append_labelled-in-Decimal.ensures (simp append_assoc)) c.append_byte.ensures)
