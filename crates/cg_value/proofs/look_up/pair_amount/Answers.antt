use Rattle.std.proofs.Common.{sym, ◌∙◌, arith}
use Rattle.cg_value.specs.LookUpLaws.{place_within, no_amount, amount_there}
use Rattle.cg_value.proofs.look_up.pair_amount.Goals as goal

pub returns-in_err-find : goal.returns-in_err-find
returns-in_err-find c = c.from_residual.ensures ∙ sym (no_amount c.args.key.now c.args.pairs.now (sym c.find.ensures ∙ c.in_err-find.was))

pub returns-in_err-pair : goal.returns-in_err-pair
returns-in_err-pair c =
    let within = place_within c.args.key.now c.args.pairs.now c.in_ok-find.field-0 (sym c.find.ensures ∙ c.in_ok-find.was) in
    absurd (omega (arith, within, c.in_err-pair.ensures))

pub returns : goal.returns
returns c = sym (amount_there c.args.key.now c.args.pairs.now c.in_ok-find.field-0 c.in_ok-pair.pair.now (sym c.find.ensures ∙ c.in_ok-find.was) c.in_ok-pair.ensures)
