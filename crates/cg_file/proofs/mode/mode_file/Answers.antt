use Rattle.std.proofs.Common.{refl, codes}
use Rattle.cg_join.specs.LackingLaws.{either_lacking, fixed_lacking}
use Rattle.cg_join.specs.LineLaws.{lacks_spelled, line_as}
use Rattle.cg_join.specs.Spelling.{spells_as}
use Rattle.cg_value.specs.ReadLine.{IsMode}
use Rattle.cg_value.specs.declared.kind.ReadForm.TheVariants.{Mode as ModeForm}
use Rattle.cg_value.specs.declared.value.Value.TheVariants.{Mode}
use Rattle.cg_file.specs.FileLaws.{one_is}
use Rattle.cg_file.specs.OneLineFileLaws.{mode_is, one_through}
use Rattle.cg_file.specs.OneLineMapped.{IsModeWord, mode_of, mode_value}
use Rattle.cg_file.proofs.mode.mode_file.Goals as goal

pub one_line-requires : goal.one_line-requires
one_line-requires c =
    let sound = either_lacking (fixed_lacking 10 (codes "domain") refl) (fixed_lacking 10 (codes "domain threaded") refl) in
    let other = either_lacking (fixed_lacking 10 (codes "domain invalid") refl) (fixed_lacking 10 (codes "threaded") refl) in
    lacks_spelled _ _ 10 c.mode_text.ensures.spells (either_lacking sound other).is

pub returns-clause-spells : goal.returns-clause-spells
returns-clause-spells c =
    let whole = spells_as (spells_as c.one_line.ensures.spells (line_as mode_value c.mode_text.ensures.spells.is))
    (one_is ModeForm (λ x text. IsModeWord text x) (λ x. Mode (mode_of x)) (one_through (λ x text. IsModeWord text x) IsMode mode_of Mode mode_is)) in
    record { is = whole.is }
