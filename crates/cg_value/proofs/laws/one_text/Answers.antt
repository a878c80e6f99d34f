use Rattle.cg_value.specs.PrintLaws.{one_text}
use Rattle.cg_value.proofs.laws.one_text.Goals as goal

pub returns : goal.returns
returns c = one_text
