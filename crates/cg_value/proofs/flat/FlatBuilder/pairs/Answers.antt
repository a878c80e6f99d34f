use Rattle.std.proofs.Common.{ap}
use Rattle.cg_value.specs.Flat.{Building}
use Rattle.cg_value.specs.FlatLaws.{distinct_keys}
use Rattle.cg_value.proofs.flat.FlatBuilder.pairs.Goals as goal

pub returns-clause-distinct : goal.returns-clause-distinct
returns-clause-distinct c =
    let pairs_is = ap (λ (b : Building). b.pairs) c.self.view_is in
    rw (← pairs_is) (distinct_keys c.self.inside.built.items c.cells.ensures.distinct)
