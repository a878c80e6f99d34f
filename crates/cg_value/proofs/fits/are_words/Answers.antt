use Rattle.std.proofs.Common.{◌↔◌, IsTrue, All, rules}
use Rattle.cg_text.specs.Word.{IsControllerWord}
use Rattle.cg_value.specs.SpelledLaws.{words_text}
use Rattle.cg_value.proofs.fits.are_words.Goals as goal

pub returns : goal.returns
returns c =
    let cells = c.cells.result.now in
    let same = c.cells.ensures.items in
    let all : IsTrue c.all.result ↔ All (λ cell. IsControllerWord cell.item) cells = search rules in
    let lines = words_text cells in
    (λ e. rw same at (lines.0 (all.0 e, rw same c.cells.ensures.distinct)), λ h. all.1 (lines.1 (rw same h)).0)
