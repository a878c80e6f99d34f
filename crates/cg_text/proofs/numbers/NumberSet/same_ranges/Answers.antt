use Rattle.cg_text.specs.NumbersLaws.{same_ranges}
use Rattle.cg_text.proofs.numbers.NumberSet.same_ranges.Goals as goal

pub returns : goal.returns
returns c = same_ranges 0
