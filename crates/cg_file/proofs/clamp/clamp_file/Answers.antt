use Rattle.std.proofs.Common.{arith}
use Rattle.cg_text.specs.Clamp.{IsClamp}
use Rattle.cg_text.specs.declared.hundredths.Spelling.TheVariants.{Read}
use Rattle.cg_join.specs.LackingLaws.{clamp_lacking}
use Rattle.cg_join.specs.LineLaws.{lacks_spelled, line_as}
use Rattle.cg_join.specs.Spelling.{spells_as}
use Rattle.cg_value.specs.declared.kind.ReadForm.TheVariants.{Clamp as ClampForm}
use Rattle.cg_value.specs.declared.value.Value.TheVariants.{Clamp as ClampOf}
use Rattle.cg_file.specs.FileLaws.{one_is}
use Rattle.cg_file.specs.OneLineMapped.{clamp_value}
use Rattle.cg_file.proofs.clamp.clamp_file.Goals as goal

pub one_line-requires : goal.one_line-requires
one_line-requires c = lacks_spelled _ _ 10 c.new.ensures.spells (clamp_lacking 10 Read (omega arith)).is

pub returns-clause-spells : goal.returns-clause-spells
returns-clause-spells c = let whole = spells_as (spells_as c.one_line.ensures.spells (line_as clamp_value c.new.ensures.spells.is)) (one_is ClampForm (IsClamp Read) ClampOf (λ v lines. (λ h. h, λ h. h))) in record { is = whole.is }
