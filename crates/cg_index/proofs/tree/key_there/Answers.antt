use Rattle.std.proofs.Common.{sym, ap, ◌∙◌}
use Rattle.cg_index.specs.Cells.{item_of}
use Rattle.cg_index.specs.CellLaws.{key_in}
use Rattle.cg_index.specs.IndexLaws.{word_bytes}
use Rattle.cg_index.proofs.tree.key_there.Goals as goal

pub returns-in-Some-clause-key : goal.returns-in-Some-clause-key
returns-in-Some-clause-key g c =
    let key = g.T.HasKey.key_of in
    let within = rw c.in-Some.is at c.requires in
    let read = key_in key c.args.cells.now c.in-Some.place c.index-cells-place.result within c.index-cells-place.is in
    rw c.in-Some.is (c.bytes.ensures.bytes ∙ c.key.ensures ∙ ap (λ cell. key (item_of cell)) (sym c.index-cells-place.is) ∙ sym read)

pub returns-in-Some-clause-bytes : goal.returns-in-Some-clause-bytes
returns-in-Some-clause-bytes g c = word_bytes c.bytes.result.now (rw (← c.bytes.ensures.bytes) at c.bytes.ensures.word.1)
