use Rattle.std.proofs.Common.{map, ◌∙◌}
use Rattle.std.proofs.lemmas.List.{length-map}
use Rattle.cg_index.specs.Cells.{item_of}
use Rattle.cg_index.specs.IndexLaws.{word_bytes, near_is}
use Rattle.cg_index.specs.FoundLaws.{near_apart}
use Rattle.cg_index.proofs.tree.new_point.Goals as goal

pub point_near-requires-clause-key : goal.point_near-requires-clause-key
point_near-requires-clause-key g c = word_bytes c.bytes-bytes.result.now (rw (← c.bytes-bytes.ensures.bytes) at c.bytes-bytes.ensures.word.1)

pub point_near-requires-clause-apart : goal.point_near-requires-clause-apart
point_near-requires-clause-apart g c = λ some same.
    near_apart c.requires.tree c.nearest.result c.key_there-there.result.now c.args.key.now (rw length-map c.nearest.ensures.none) (rw length-map c.nearest.ensures.within) c.key_there-there.ensures.key
    c.requires.new (rw length-map some) (same ∙ c.bytes-bytes.ensures.bytes)

pub returns : goal.returns
returns g c =
    let keys = map g.T.HasKey.key_of (map item_of c.args.cells.now) in
    let near = near_is c.requires.tree c.nearest.result c.key_there-there.result.now c.bytes-bytes.result.now (rw length-map c.nearest.ensures.none) c.nearest.ensures.nearest c.key_there-there.ensures.key in
    rw (c.bytes-bytes.ensures.bytes) at (c.point_near.ensures keys c.requires.tree near)
