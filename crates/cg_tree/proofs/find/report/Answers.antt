use Rattle.std.proofs.Common.{◌≡◌, ℕ, ◌<◌, ◌++◌, ◌∷◌, [], Bool, not, List, get_or, length, map, take, ap, sym, ◌∙◌, append_assoc, arith}
use Rattle.std.proofs.lemmas.List.{length-map}
use Rattle.cg_index.specs.Cells.{item_of}
use Rattle.cg_index.specs.CellLaws.{item_there}
use Rattle.cg_tree.specs.File.{FileData}
use Rattle.cg_tree.specs.Find.{allows, finding}
use Rattle.cg_tree.specs.FindLaws.{lacked}
use Rattle.cg_tree.specs.PickedLaws.{picked_more, picked_passed}
use Rattle.cg_tree.specs.declared.finding.Finding.{Finding}
use Rattle.cg_tree.specs.declared.finding.Rule.{Rule}
use Rattle.cg_tree.proofs.find.report.Goals as goal
use Rattle.cg_tree.proofs.find.report.Goals.{then-not-allows+in_ok-push, else-not-allows}

-- One finding more, of files that are seen as these.
one_more : (all old done : List Finding) (rule : Rule) (a b e f : FileData) (p : ℕ × List ℕ) → all ≡ old ++ done → a ≡ e → b ≡ f → all ++ finding rule a b p ∷ [] ≡ old ++ (done ++ finding rule e f p ∷ [])
one_more all old done rule a b e f p i g h = rw (i, g, h) (append_assoc old done (finding rule e f p ∷ []))

pub loop-word-preserved : goal.loop-word-preserved
loop-word-preserved c =
    let cells = c.words_of-cell-items.result.now in
    let words = map item_of cells in
    let key = c.cell-item.result.item in
    let old = c.args.found.now.items in
    let fails : ℕ × List ℕ → Bool = λ p. not (allows c.args.rule c.args.other.now p.1) in
    let make = finding c.args.rule c.args.control.now c.args.other.now in
    let inside : c.loop-word.word < length words = omega (arith, c.loop-word-test.true, length-map cells (item_of {T = List ℕ})) in
    let is : key ≡ get_or words c.loop-word.word key = sym (item_there cells c.loop-word.word c.cell-item.result c.loop-word-test.true c.cell-item.is) in
    let same = c.bytes.ensures.bytes in
    let tested : fails (c.loop-word.word, key) ≡ not c.allows.result = ap (λ k. not (allows c.args.rule c.args.other.now k)) (sym same) ∙ ap not (sym c.allows.ensures) in
    elim c.if-not-allows.branch [
      | then-not-allows+in_ok-push w ↦ ap (λ f. f.items) w.found-is ∙ w.in_ok-push.ensures.items
          ∙ one_more c.loop-word.found.items old (lacked c.args.rule c.args.control.now c.args.other.now (take c.loop-word.word words)) c.args.rule _ _ _ _ (c.loop-word.word, key) c.loop-word.invariant c.control.view_is c.other.view_is
          ∙ ap (λ t. old ++ t) (sym (picked_more fails make words c.loop-word.word key inside is (tested ∙ ap not w.if-not-allows.true)))
      | else-not-allows w ↦ ap (λ f. f.items) w.found-is ∙ c.loop-word.invariant ∙ ap (λ t. old ++ t) (sym (picked_passed fails make words c.loop-word.word key inside is (tested ∙ ap not w.if-not-allows.false)))
    ]
