use Rattle.cg_join.specs.Spelling.{spells_as, mapped_spells}
use Rattle.cg_value.specs.ReadLine.{IsStatLine}
use Rattle.cg_value.specs.declared.kind.ReadForm.TheVariants.{DeviceStats as StatsForm}
use Rattle.cg_value.specs.declared.value.Value.TheVariants.{DeviceStats}
use Rattle.cg_file.specs.ManyFileLaws.{all_is}
use Rattle.cg_file.specs.StatFileLaws.{stat_lacks, stats_value}
use Rattle.cg_file.proofs.device_stats.DeviceStatsFile.new.Goals as goal

pub new-requires : goal.new-requires
new-requires c = stat_lacks c.args.kernel

pub returns-clause-spells : goal.returns-clause-spells
returns-clause-spells c = let whole = spells_as (mapped_spells stats_value c.new.ensures.spells c.new-2.ensures.spells) (all_is (StatsForm c.args.kernel) (IsStatLine c.args.kernel) DeviceStats (λ v lines. (λ h. h, λ h. h))) in record { is = whole.is }
