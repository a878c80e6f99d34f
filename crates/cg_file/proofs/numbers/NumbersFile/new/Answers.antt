use Rattle.std.proofs.Common.{arith}
use Rattle.cg_text.specs.Decimal.{IsDecimal}
use Rattle.cg_join.specs.LackLaws.{decimal_lacks}
use Rattle.cg_join.specs.Spelling.{spells_as, mapped_spells}
use Rattle.cg_value.specs.declared.kind.ReadForm.TheVariants.{Numbers as NumbersForm}
use Rattle.cg_value.specs.declared.value.Value.TheVariants.{Numbers}
use Rattle.cg_file.specs.ManyFileLaws.{all_is, numbers_value}
use Rattle.cg_file.proofs.numbers.NumbersFile.new.Goals as goal

pub new-requires-2 : goal.new-requires-2
new-requires-2 c = decimal_lacks 10 c.new.result.lo c.new.result.hi (omega arith)

pub returns-clause-spells : goal.returns-clause-spells
returns-clause-spells c =
    let h = spells_as (mapped_spells numbers_value c.new-2.ensures.spells c.new-3.ensures.spells) (all_is (NumbersForm c.new.result.lo c.new.result.hi) (IsDecimal c.new.result.lo c.new.result.hi) Numbers (λ v lines. (λ h. h, λ h. h))) in
    let whole = rw (c.new.ensures.low, c.new.ensures.high) at h in
    record { is = whole.is }
