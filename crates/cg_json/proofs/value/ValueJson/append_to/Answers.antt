use Rattle.std.proofs.Common.{ap, rules}
use Rattle.std.proofs.lemmas.Simd.{map-map}
use Rattle.cg_index.specs.Cells.{item_of}
use Rattle.cg_value.specs.declared.flat.FlatPair.{FlatPair}
use Rattle.cg_value.specs.SpelledLaws.{flat_distinct}
use Rattle.serde_json.specs.Data.{string}
use Rattle.serde_json.specs.Written.{compact_text}
use Rattle.cg_json.specs.Json.{number_data}
use Rattle.cg_json.specs.JsonLaws.{array_mapped, keyed_mapped}
use Rattle.cg_json.proofs.value.ValueJson.append_to.Goals as goal

pub append_object-requires : goal.append_object-requires
append_object-requires c =
    rw (← map-map (λ (p : FlatPair). p.key) item_of c.pairs.result.now, c.pairs.ensures.pairs) (flat_distinct _ c.pairs.ensures.distinct)

pub returns-in-Words : goal.returns-in-Words
returns-in-Words c = rw (c.in-Words.is, ← c.cells.ensures.items, ap compact_text (array_mapped string item_of c.cells.result.now)) (search rules)

pub returns-in-Flat : goal.returns-in-Flat
returns-in-Flat c =
    rw (c.in-Flat.is, ← c.pairs.ensures.pairs, ap compact_text (keyed_mapped (λ (p : FlatPair). p.key) (λ (p : FlatPair). number_data p.number) item_of c.pairs.result.now)) (search rules)
