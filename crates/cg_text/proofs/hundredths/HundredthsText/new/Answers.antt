use Rattle.cg_text.specs.HundredthsState.{WholePart}
use Rattle.cg_text.specs.HundredthsLaws.{hundredths_new}
use Rattle.cg_text.specs.declared.decimal.Progress.TheVariants.{Start}
use Rattle.cg_text.proofs.hundredths.HundredthsText.new.Goals as goal

pub returns-clause-spells : goal.returns-clause-spells
returns-clause-spells c = record { is = hundredths_new c.args.form c.args.most (WholePart c.args.most Start) (λ x n. (λ h. h, λ h. h)) }
