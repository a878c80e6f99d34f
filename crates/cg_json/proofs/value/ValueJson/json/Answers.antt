use Rattle.std.proofs.Common.{rules}
use Rattle.cg_index.specs.Cells.{item_of}
use Rattle.cg_value.specs.declared.flat.FlatPair.{FlatPair}
use Rattle.serde_json.specs.Data.{string}
use Rattle.cg_json.specs.Json.{number_data}
use Rattle.cg_json.specs.JsonLaws.{array_mapped, keyed_mapped}
use Rattle.cg_json.proofs.value.ValueJson.json.Goals as goal

pub returns-in-Words : goal.returns-in-Words
returns-in-Words c = rw (c.in-Words.is, ← c.cells.ensures.items, array_mapped string item_of c.cells.result.now) (search rules)

pub returns-in-Flat : goal.returns-in-Flat
returns-in-Flat c =
    rw (c.in-Flat.is, ← c.pairs.ensures.pairs, keyed_mapped (λ (p : FlatPair). p.key) (λ (p : FlatPair). number_data p.number) item_of c.pairs.result.now) (search rules)
