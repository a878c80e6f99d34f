use Rattle.std.proofs.Common.{Bool, List, ℕ, Option}
use Rattle.cg_join.specs.LineLaws.{lacks_spelled, line_as}
use Rattle.cg_join.specs.Spelling.{spells_as}
use Rattle.cg_value.specs.ReadLine.{IsPartition}
use Rattle.cg_value.specs.declared.kind.ReadForm.TheVariants.{Partition as PartitionForm}
use Rattle.cg_value.specs.declared.value.Role.{Role}
use Rattle.cg_value.specs.declared.value.Value.TheVariants.{Partition}
use Rattle.cg_file.specs.FileLaws.{one_is}
use Rattle.cg_file.specs.OneLineFileLaws.{one_through}
use Rattle.cg_file.specs.PartitionFileLaws.{partition_is, partition_lacking}
use Rattle.cg_file.specs.PartitionMapped.{IsPartitionText, partition_parts, partition_value}
use Rattle.cg_file.proofs.partition.PartitionFile.new.Goals as goal

pub one_line-requires : goal.one_line-requires
one_line-requires c = lacks_spelled _ _ 10 c.partition_text.ensures.spells partition_lacking.is

pub returns-clause-spells : goal.returns-clause-spells
returns-clause-spells c =
    let whole = spells_as (spells_as c.one_line.ensures.spells (line_as partition_value c.partition_text.ensures.spells.is))
    (one_is PartitionForm (λ x text. IsPartitionText text x) (λ x. Partition ((partition_parts x).0) ((partition_parts x).1) ((partition_parts x).2))
    (one_through (λ x text. IsPartitionText text x) (λ (x : Role × Bool × Option (List ℕ)) text. IsPartition (x.0) (x.1) (x.2) text) partition_parts (λ x. Partition (x.0) (x.1) (x.2)) partition_is)) in
    record { is = whole.is }
