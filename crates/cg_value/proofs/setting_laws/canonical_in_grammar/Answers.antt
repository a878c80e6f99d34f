use Rattle.cg_value.specs.PrintSettingLaws.{setting_text_prints}
use Rattle.cg_value.proofs.setting_laws.canonical_in_grammar.Goals as goal

pub returns : goal.returns
returns c = setting_text_prints
