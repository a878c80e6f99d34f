use Rattle.std.proofs.Common.{◌∙◌, ap, map}
use Rattle.cg_index.specs.Keyed.{is_among}
use Rattle.std.proofs.lemmas.List.{length-map}
use Rattle.cg_index.specs.Cells.{item_of}
use Rattle.cg_index.specs.IndexLaws.{word_bytes, near_is}
use Rattle.cg_index.specs.PlaceLaws.{same_key, not_same_key}
use Rattle.cg_index.specs.FoundLaws.{near_among, near_other}
use Rattle.cg_index.proofs.tree.point_of.Goals as goal

pub returns-then-eq-clause-there : goal.returns-then-eq-clause-there
returns-then-eq-clause-there g c =
    let keys = map g.T.HasKey.key_of (map item_of c.args.cells.now) in
    let same = same_key c.key_there-there.result.now c.bytes-bytes.result.now c.eq.result c.eq.ensures c.if-eq.true in
    let some = rw (← c.bytes-bytes.ensures.bytes) at c.bytes-bytes.ensures.word.0 in
    near_among c.requires.distinct c.requires.tree c.nearest.result c.key_there-there.result.now c.bytes-bytes.result.now (rw length-map c.nearest.ensures.within) c.key_there-there.ensures.key same some
    ∙ ap (λ key. is_among key keys) c.bytes-bytes.ensures.bytes

pub point_near-requires-clause-key : goal.point_near-requires-clause-key
point_near-requires-clause-key g c = word_bytes c.bytes-bytes.result.now (rw (← c.bytes-bytes.ensures.bytes) at c.bytes-bytes.ensures.word.1)

pub returns-clause-there : goal.returns-clause-there
returns-clause-there g c =
    let keys = map g.T.HasKey.key_of (map item_of c.args.cells.now) in
    let apart = not_same_key c.key_there-there.result.now c.bytes-bytes.result.now c.eq.result c.eq.ensures c.if-eq.false in
    near_other c.requires.tree c.nearest.result c.key_there-there.result.now c.bytes-bytes.result.now (rw length-map c.nearest.ensures.none) c.nearest.ensures.only c.key_there-there.ensures.key apart
    ∙ ap (λ key. is_among key keys) c.bytes-bytes.ensures.bytes

pub returns-clause-point : goal.returns-clause-point
returns-clause-point g c =
    let keys = map g.T.HasKey.key_of (map item_of c.args.cells.now) in
    let near = near_is c.requires.tree c.nearest.result c.key_there-there.result.now c.bytes-bytes.result.now (rw length-map c.nearest.ensures.none) c.nearest.ensures.nearest c.key_there-there.ensures.key in
    rw (c.bytes-bytes.ensures.bytes) at (c.point_near.ensures keys c.requires.tree near)
