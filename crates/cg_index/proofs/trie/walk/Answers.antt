use Rattle.std.proofs.Common.{◌<◌, ◌%◌, length, refl, sym, ap, ◌∙◌, arith}
use Rattle.std.proofs.lemmas.List.{length-map}
use Rattle.std.proofs.lemmas.Bool.Decides.{nat_tests}
use Rattle.cg_text.specs.Hash.{hash_of}
use Rattle.cg_index.specs.Cells.{places_of}
use Rattle.cg_index.specs.CellLaws.{next_there, next_of_none, hash_there, no_hash_there, keys_length}
use Rattle.cg_index.specs.Trie.{met, vacant, on}
use Rattle.cg_index.proofs.trie.walk.Goals as goal
use Rattle.cg_index.proofs.trie.walk.Goals.{in-Some+else-hash, in-None}

pub loop-cell-init : goal.loop-cell-init
loop-cell-init g c = λ e w. w

pub returns-then-hash : goal.returns-then-hash
returns-then-hash g c =
    let key = g.T.HasKey.key_of in
    let within : c.loop-cell.place < length c.args.cells.now = grind (arith, nat_tests, c.in-Some.ensures.lookup.0) in
    c.loop-cell.invariant _ (met (hash_there key c.args.cells.now c.loop-cell.place c.args.hash c.in-Some.cell.now within c.in-Some.ensures.lookup.1
    (sym (ap hash_of c.key.ensures) ∙ sym c.hash.ensures ∙ c.if-hash.true)) refl)

pub returns-then-next-eq0 : goal.returns-then-next-eq0
returns-then-next-eq0 g c =
    let key = g.T.HasKey.key_of in
    elim c.match-get.branch [
      | in-Some+else-hash w ↦
          let within : c.loop-cell.place < length c.args.cells.now = grind (arith, nat_tests, w.in-Some.ensures.lookup.0) in
          c.loop-cell.invariant _ (vacant
          (no_hash_there key c.args.cells.now c.loop-cell.place c.args.hash w.in-Some.cell.now within w.in-Some.ensures.lookup.1 (λ e. w.if-hash.false (w.hash.ensures ∙ ap hash_of w.key.ensures ∙ e)))
          (next_there c.args.cells.now c.loop-cell.place w.in-Some.cell.now (c.loop-cell.rest % 4) within w.in-Some.ensures.lookup.1 ∙ sym w.next-next.ensures ∙ sym w.next-is ∙ c.if-next-eq0.true) refl)
      | in-None w ↦
          let beyond : c.loop-cell.place < length c.args.cells.now → ⊥ = λ h. grind (arith, nat_tests, w.in-None.ensures.lookup, h) in
          c.loop-cell.invariant _ (vacant (λ has. beyond (omega (arith, has.0, keys_length key c.args.cells.now)))
          (next_of_none c.args.cells.now c.loop-cell.place (c.loop-cell.rest % 4) beyond) refl)
    ]

pub loop-cell-smaller : goal.loop-cell-smaller
loop-cell-smaller g c =
    elim c.match-get.branch [
      | in-Some+else-hash w ↦
          let within : c.loop-cell.place < length c.args.cells.now = grind (arith, nat_tests, w.in-Some.ensures.lookup.0) in
          let goes = next_there c.args.cells.now c.loop-cell.place w.in-Some.cell.now (c.loop-cell.rest % 4) within w.in-Some.ensures.lookup.1 ∙ sym w.next-next.ensures ∙ sym w.next-is in
          let rises = c.requires.rising c.loop-cell.place (c.loop-cell.rest % 4) (omega (arith, within, length-map c.args.cells.now places_of)) (grind (arith, goes, c.if-next-eq0.false)) in
          omega (arith, goes, rises.0, within)
      | in-None w ↦ absurd (c.if-next-eq0.false w.next-is)
    ]

pub loop-cell-preserved : goal.loop-cell-preserved
loop-cell-preserved g c = λ e then_ends.
    let key = g.T.HasKey.key_of in
    elim c.match-get.branch [
      | in-Some+else-hash w ↦
          let within : c.loop-cell.place < length c.args.cells.now = grind (arith, nat_tests, w.in-Some.ensures.lookup.0) in
          let goes = next_there c.args.cells.now c.loop-cell.place w.in-Some.cell.now (c.loop-cell.rest % 4) within w.in-Some.ensures.lookup.1 ∙ sym w.next-next.ensures ∙ sym w.next-is in
          c.loop-cell.invariant e (on
          (no_hash_there key c.args.cells.now c.loop-cell.place c.args.hash w.in-Some.cell.now within w.in-Some.ensures.lookup.1 (λ f. w.if-hash.false (w.hash.ensures ∙ ap hash_of w.key.ensures ∙ f)))
          (grind (arith, goes, c.if-next-eq0.false)) (rw goes then_ends))
      | in-None w ↦ absurd (c.if-next-eq0.false w.next-is)
    ]
