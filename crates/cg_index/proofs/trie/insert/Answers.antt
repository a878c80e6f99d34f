use Rattle.std.specs.Prelude.{slice_set}
use Rattle.std.proofs.Common.{◌≡◌, ◌++◌, ◌∷◌, [], length, map, refl, sym, ap, ◌∙◌, arith}
use Rattle.std.proofs.Math.Seq.{map-set_same}
use Rattle.std.proofs.lemmas.List.{length-map, map-append, set_past}
use Rattle.cg_index.specs.Cells.{item_of, places_of}
use Rattle.cg_index.specs.CellLaws.{linked_there, linked_set}
use Rattle.cg_index.specs.Trie.{places_at}
use Rattle.cg_index.specs.TrieLaws.{open_is}
use Rattle.cg_index.proofs.trie.insert.Goals as goal
use Rattle.cg_index.proofs.trie.insert.Goals.{then-at-place, else-at-place}

pub linked-requires : goal.linked-requires
linked-requires g c = (open_is c.requires.opening refl).1

pub returns-clause-items : goal.returns-clause-items
returns-clause-items g c =
    let at = c.args.at in
    let kept : map item_of c.if-at-place.cells.items ≡ map item_of c.args.cells.now.items = elim c.if-at-place.branch [
      | then-at-place w ↦ ap (λ v. map item_of v.items) w.cells-is ∙ map-set_same item_of c.args.cells.now.items at.place (record w.index_mut.result.now { links = w.linked.result }) w.index_mut.result.now (ap item_of w.index_mut.ensures.value)
      | else-at-place w ↦ ap (λ v. map item_of v.items) w.cells-is
    ] in
    ap (map item_of) c.push_reserved.ensures.items ∙ map-append item_of c.if-at-place.cells.items (c.new.result ∷ []) ∙ ap (λ v. v ++ c.new.result.item ∷ []) kept
    ∙ ap (λ v. map item_of c.args.cells.now.items ++ v ∷ []) c.new.ensures.item

pub returns-clause-trie : goal.returns-clause-trie
returns-clause-trie g c =
    let key = g.T.HasKey.key_of in
    let at = c.args.at in
    let old = c.args.cells.now.items in
    let count : c.len-place.result ≡ length old = omega (arith, c.len-place.ensures, c.args.cells.now.ok.0) in
    let kept : map item_of c.if-at-place.cells.items ≡ map item_of old = elim c.if-at-place.branch [
      | then-at-place w ↦ ap (λ v. map item_of v.items) w.cells-is ∙ map-set_same item_of old at.place (record w.index_mut.result.now { links = w.linked.result }) w.index_mut.result.now (ap item_of w.index_mut.ensures.value)
      | else-at-place w ↦ ap (λ v. map item_of v.items) w.cells-is
    ] in
    let places : map places_of c.if-at-place.cells.items ≡ slice_set (map places_of old) at.place (slice_set (places_at (map places_of old) at.place) at.digit (length (map places_of old))) = elim c.if-at-place.branch [
      | then-at-place w ↦
          ap (λ v. map places_of v.items) w.cells-is
          ∙ linked_set old at.place at.digit c.len-place.result w.index.result.now (record w.index_mut.result.now { links = w.linked.result }) (omega (arith, w.if-at-place.true, count)) w.index.ensures count w.linked.ensures
      | else-at-place w ↦
          ap (λ v. map places_of v.items) w.cells-is
          ∙ sym (set_past (map places_of old) at.place (slice_set (places_at (map places_of old) at.place) at.digit (length (map places_of old))) (omega (arith, w.if-at-place.false, count, length-map old places_of)))
    ] in
    linked_there key old c.if-at-place.cells.items c.push_reserved.new.self.items c.args.item at c.new.result c.new.ensures.item c.new.ensures.links c.push_reserved.ensures.items kept places c.requires.trie c.requires.opening
