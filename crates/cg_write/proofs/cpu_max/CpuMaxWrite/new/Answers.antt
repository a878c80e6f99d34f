use Rattle.std.proofs.Common.{ℕ, Option}
use Rattle.cg_text.specs.declared.values.Limit.{Limit}
use Rattle.cg_join.specs.CompositeLaws.{written_quota_lacking}
use Rattle.cg_join.specs.Composites.{IsWrittenQuota}
use Rattle.cg_join.specs.LineLaws.{lacks_spelled}
use Rattle.cg_value.specs.WriteLine.{IsQuota}
use Rattle.cg_value.specs.declared.kind.WriteForm.TheVariants.{CpuMax as CpuMaxForm}
use Rattle.cg_value.specs.declared.setting.Setting.TheVariants.{CpuMax}
use Rattle.cg_write.specs.CpuMaxLaws.{written_quota_is}
use Rattle.cg_write.specs.Mapped.{perhaps_both, second_of}
use Rattle.cg_write.specs.WriteLaws.{line_through, write_spells}
use Rattle.cg_write.proofs.cpu_max.CpuMaxWrite.new.Goals as goal

pub one_line-requires : goal.one_line-requires
one_line-requires c = lacks_spelled _ _ 10 c.written_quota.ensures.spells written_quota_lacking.is

pub returns-clause-spells : goal.returns-clause-spells
returns-clause-spells c =
    let whole = write_spells CpuMaxForm (λ v. CpuMax v.0 (second_of v.1)) c.written_quota.ensures.spells c.one_line.ensures.spells
    (line_through IsWrittenQuota (λ (x : Limit × Option ℕ) l. IsQuota (x.0) (x.1) l) perhaps_both (λ x. CpuMax (x.0) (x.1)) written_quota_is) in
    record { is = whole.is }
