use Rattle.std.proofs.Common.{rules, ap, ◌∙◌}
use Rattle.std.proofs.lemmas.List.Sorted.{answers_always}
use Rattle.cg_tree.specs.Files.{within}
use Rattle.cg_tree.specs.FilesLaws.{is_before, before_is_order, within_sorted}
use Rattle.cg_tree.proofs.files.Index.new.Goals as goal

pub invariant_of-result : goal.invariant_of-result
invariant_of-result c = c.in_ok-sort_by.ensures.sorted is_before before_is_order (answers_always _ _ _ (λ f a r g h. search rules))

pub returns : goal.returns
returns c d =
    let stable = c.in_ok-sort_by.ensures.stable is_before before_is_order (answers_always _ _ _ (λ f a r g h. search rules)) in
    within_sorted _ _ stable d ∙ ap (within d) c.in_ok-files.ensures
