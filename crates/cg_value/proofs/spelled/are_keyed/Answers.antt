use Rattle.cg_index.specs.Cells.{item_of}
use Rattle.cg_value.specs.SpelledLaws.{mapped_text}
use Rattle.cg_value.proofs.spelled.are_keyed.Goals as goal

pub returns : goal.returns
returns g c =
    let same = c.cells.ensures.items in
    let lines = mapped_text item_of g.T.Spelled.spells c.cells.result.now in
    (λ e. (rw same at (lines.0 (c.are_spelled.ensures.0 e)), c.cells.ensures.distinct), λ h. c.are_spelled.ensures.1 (lines.1 (rw same h.0)))
