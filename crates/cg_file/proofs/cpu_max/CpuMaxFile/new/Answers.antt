use Rattle.std.proofs.Common.{ℕ}
use Rattle.cg_text.specs.declared.values.Limit.{Limit}
use Rattle.cg_join.specs.CompositeLaws.{quota_lacking}
use Rattle.cg_join.specs.Composites.{IsQuotaAndPeriod}
use Rattle.cg_join.specs.LineLaws.{lacks_spelled, line_as}
use Rattle.cg_join.specs.Spelling.{spells_as}
use Rattle.cg_value.specs.ReadLine.{IsCpuMax}
use Rattle.cg_value.specs.declared.kind.ReadForm.TheVariants.{CpuMax as CpuMaxForm}
use Rattle.cg_value.specs.declared.value.Value.TheVariants.{CpuMax}
use Rattle.cg_file.specs.FileLaws.{one_is}
use Rattle.cg_file.specs.OneLineFileLaws.{cpu_max_is, one_through}
use Rattle.cg_file.specs.OneLineMapped.{cpu_max_value, quota_of}
use Rattle.cg_file.proofs.cpu_max.CpuMaxFile.new.Goals as goal

pub one_line-requires : goal.one_line-requires
one_line-requires c = lacks_spelled _ _ 10 c.quota_and_period.ensures.spells quota_lacking.is

pub returns-clause-spells : goal.returns-clause-spells
returns-clause-spells c =
    let whole = spells_as (spells_as c.one_line.ensures.spells (line_as cpu_max_value c.quota_and_period.ensures.spells.is))
    (one_is CpuMaxForm (λ x text. IsQuotaAndPeriod text x) (λ x. CpuMax x.0 x.1.1)
    (one_through (λ x text. IsQuotaAndPeriod text x) IsCpuMax quota_of (λ (x : Limit × ℕ). CpuMax x.0 x.1) cpu_max_is)) in
    record { is = whole.is }
