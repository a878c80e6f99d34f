-- The words of rules.
use Rattle.std.specs.Prelude.{ℕ, List, codes}
use Rattle.cg_tree.specs.declared.finding.Rule.{Rule}
use Rattle.cg_tree.specs.declared.finding.Rule.TheVariants.{C1, C2, C3}

abbrev pub rule_word : Rule → List ℕ
rule_word C1 = codes "C1"
rule_word C2 = codes "C2"
rule_word C3 = codes "C3"
