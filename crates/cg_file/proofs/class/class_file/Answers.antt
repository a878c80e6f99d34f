use Rattle.cg_text.specs.Class.{IsClass}
use Rattle.cg_join.specs.ClassLaws.{class_lacking}
use Rattle.cg_join.specs.LineLaws.{lacks_spelled, line_as}
use Rattle.cg_join.specs.Spelling.{spells_as}
use Rattle.cg_value.specs.declared.kind.ReadForm.TheVariants.{Class as ClassForm}
use Rattle.cg_value.specs.declared.value.Value.TheVariants.{Class}
use Rattle.cg_file.specs.FileLaws.{one_is}
use Rattle.cg_file.specs.OneLineMapped.{class_value}
use Rattle.cg_file.proofs.class.class_file.Goals as goal

pub one_line-requires : goal.one_line-requires
one_line-requires c = lacks_spelled _ _ 10 c.new.ensures.spells class_lacking.is

pub returns-clause-spells : goal.returns-clause-spells
returns-clause-spells c = let whole = spells_as (spells_as c.one_line.ensures.spells (line_as class_value c.new.ensures.spells.is)) (one_is ClassForm IsClass Class (λ v lines. (λ h. h, λ h. h))) in record { is = whole.is }
