use Rattle.std.proofs.Common.{ℕ, List}
use Rattle.cg_join.specs.LineLaws.{lacks_spelled, line_as}
use Rattle.cg_join.specs.Spelling.{spells_as}
use Rattle.cg_value.specs.ReadLine.{IsNodeStats}
use Rattle.cg_value.specs.declared.kind.ReadForm.TheVariants.{NodeStats as NodeStatsForm}
use Rattle.cg_value.specs.declared.value.NestedPair.{NestedPair}
use Rattle.cg_value.specs.declared.value.Value.TheVariants.{NodeStats}
use Rattle.cg_file.specs.FileLaws.{one_is}
use Rattle.cg_file.specs.NodeStatsFileLaws.{IsNodesText, node_stats_value, nodes_are, nodes_lack, nodes_of}
use Rattle.cg_file.specs.OneLineFileLaws.{one_through}
use Rattle.cg_file.proofs.node_stats.NodeStatsFile.new.Goals as goal

pub one_line-requires : goal.one_line-requires
one_line-requires c = lacks_spelled _ _ 10 c.new.ensures.spells nodes_lack

pub returns-clause-spells : goal.returns-clause-spells
returns-clause-spells c =
    let make = λ (x : ℕ × List NestedPair). NodeStats (x.0) (x.1) in
    let whole = spells_as (spells_as c.one_line.ensures.spells (line_as node_stats_value c.new.ensures.spells.is))
    (one_is NodeStatsForm (λ x text. IsNodesText text x) (λ x. make (nodes_of x)) (one_through (λ x text. IsNodesText text x) IsNodeStats nodes_of make nodes_are)) in
    record { is = whole.is }
