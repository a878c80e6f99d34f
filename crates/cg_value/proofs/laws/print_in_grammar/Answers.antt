use Rattle.cg_value.specs.PrintLaws.{print_fits}
use Rattle.cg_value.proofs.laws.print_in_grammar.Goals as goal

pub returns : goal.returns
returns c = print_fits
