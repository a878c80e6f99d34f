use Rattle.std.proofs.Common.{rules}
use Rattle.cg_index.specs.Cells.{item_of}
use Rattle.cg_json.specs.JsonLaws.{keyed_mapped}
use Rattle.cg_json.proofs.keyed.KeyedItemsJson.json.Goals as goal

pub returns : goal.returns
returns g c = rw (← c.cells.ensures.items, keyed_mapped g.T.HasKey.key_of g.T.Json.tree_of item_of c.cells.result.now) (search rules)
