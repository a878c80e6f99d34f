use Rattle.std.proofs.Common.{◌↔◌, IsTrue, All, rules}
use Rattle.cg_index.specs.Cells.{item_of}
use Rattle.cg_value.specs.ReadLine.{IsStatPair}
use Rattle.cg_value.specs.SpelledLaws.{HasText, lines_text, mapped_text}
use Rattle.cg_value.proofs.spelled.are_stat_pairs.Goals as goal

pub returns : goal.returns
returns c =
    let same = c.cells.ensures.items in
    let cells = c.cells.result.now in
    let all : IsTrue c.all.result ↔ All (λ cell. HasText (IsStatPair c.args.kernel cell.item)) cells = search rules in
    let each = lines_text (λ cell. IsStatPair c.args.kernel (item_of cell)) cells in
    let lines = mapped_text item_of (IsStatPair c.args.kernel) cells in
    (λ e. (rw same at (lines.0 (each.0 (all.0 e))), c.cells.ensures.distinct), λ h. all.1 (each.1 (lines.1 (rw same h.0))))
