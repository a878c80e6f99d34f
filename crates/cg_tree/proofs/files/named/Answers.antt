use Rattle.std.proofs.Common.{◌≡◌, ℕ, ◌<◌, Bool, length, ap, sym, ◌∙◌, arith}
use Rattle.std.specs.Str.{bytes_eq}
use Rattle.cg_value.specs.Entry.{EntryData}
use Rattle.cg_tree.specs.Directory.{name_of}
use Rattle.cg_tree.specs.DirectoryLaws.{name_is}
use Rattle.cg_tree.specs.Files.{file_of}
use Rattle.cg_tree.specs.PickedLaws.{picked_more, picked_passed}
use Rattle.cg_tree.proofs.files.named.Goals as goal
use Rattle.cg_tree.proofs.files.named.Goals.{then-eq+in_ok-push, else-eq}

pub loop-place-preserved : goal.loop-place-preserved
loop-place-preserved c =
    let entry = c.index-entries-place.result in
    let is_named : ℕ × EntryData → Bool = λ p. bytes_eq (name_of p.1.path) c.args.name.now in
    let inside : c.loop-place.place < length c.args.entries.now = omega arith in
    let tested : is_named (c.loop-place.place, entry) ≡ c.eq.result = ap (λ n. bytes_eq n c.args.name.now) (name_is entry.path c.name.result.now c.name.ensures) ∙ sym c.eq.ensures in
    elim c.if-eq.branch [
      | then-eq+in_ok-push w ↦ ap (λ f. f.items) w.files-is ∙ w.in_ok-push.ensures.items
          ∙ rw (c.loop-place.invariant, w.directory_of.ensures, w.path.ensures.path, w.value.ensures.value)
          (sym (picked_more is_named file_of c.args.entries.now c.loop-place.place entry inside
          c.index-entries-place.is (tested ∙ w.if-eq.true)))
      | else-eq w ↦ ap (λ f. f.items) w.files-is ∙ c.loop-place.invariant ∙ sym (picked_passed is_named file_of c.args.entries.now c.loop-place.place entry inside c.index-entries-place.is (tested ∙ w.if-eq.false))
    ]
