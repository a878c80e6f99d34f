use Rattle.std.proofs.Common.{ap, rules}
use Rattle.std.proofs.lemmas.Simd.{map-map}
use Rattle.serde_json.specs.Written.{compact_text}
use Rattle.cg_index.specs.Cells.{item_of}
use Rattle.cg_json.specs.JsonLaws.{keyed_mapped}
use Rattle.cg_json.proofs.keyed.KeyedItemsJson.append_to.Goals as goal

pub append_object-requires : goal.append_object-requires
append_object-requires g c = rw (← map-map g.T.HasKey.key_of item_of c.cells.result.now, c.cells.ensures.items) c.cells.ensures.distinct

pub returns : goal.returns
returns g c = rw (← c.cells.ensures.items, ap compact_text (keyed_mapped g.T.HasKey.key_of g.T.Json.tree_of item_of c.cells.result.now)) (search rules)
