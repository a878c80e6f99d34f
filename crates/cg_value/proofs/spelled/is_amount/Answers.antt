use Rattle.cg_value.specs.SpelledLaws.{below_amount, max_amount}
use Rattle.cg_value.proofs.spelled.is_amount.Goals as goal

pub returns-in-Max : goal.returns-in-Max
returns-in-Max c = (λ _. max_amount c.args.signed c.args.amount.now c.in-Max.is, λ _. cc)

pub returns-then-signed : goal.returns-then-signed
returns-then-signed c =
    let below = below_amount c.args.signed c.in-Below.number in
    let text = c.is_within.ensures.text in
    rw c.in-Below.is (λ e. below.0 (c.if-signed.true, text.0 e), λ h. text.1 (below.1 h).1)
