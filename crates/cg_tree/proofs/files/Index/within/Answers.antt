use Rattle.std.proofs.Common.{◌≤◌, rules, ap, ◌∙◌, arith, length, drop, length-take}
use Rattle.std.proofs.lemmas.List.Sorted.{IsPartitionPoint-from_clause}
use Rattle.cg_tree.specs.Files.{within}
use Rattle.cg_tree.specs.FilesLaws.{AreInOrder, before, upto, before_parted, upto_parted, ends_later, within_found}
use Rattle.cg_tree.proofs.files.Index.within.Goals as goal

pub split_at-requires-2 : goal.split_at-requires-2
split_at-requires-2 c =
    let d = c.args.directory.now in
    let fs = c.as_slice-files.result.now in
    let order : AreInOrder fs = rw c.as_slice-files.ensures.value c.self.invariant in
    let first = IsPartitionPoint-from_clause (before d) _ _ c.partition_point-start.ensures.partitioned (before_parted d fs order) (λ a r q k. search rules) in
    let last = IsPartitionPoint-from_clause (upto d) _ _ c.partition_point-end.ensures.partitioned (upto_parted d fs order) (λ a r q k. search rules) in
    let ends : c.partition_point-start.result ≤ c.partition_point-end.result = ends_later d fs _ _ c.partition_point-start.ensures.bound first.0 last.1 in
    omega (arith, ends, c.partition_point-end.ensures.bound, ap length c.split_at.ensures.front, length-take c.partition_point-end.result fs)

pub returns : goal.returns
returns c =
    let d = c.args.directory.now in
    let fs = c.as_slice-files.result.now in
    let order : AreInOrder fs = rw c.as_slice-files.ensures.value c.self.invariant in
    let first = IsPartitionPoint-from_clause (before d) _ _ c.partition_point-start.ensures.partitioned (before_parted d fs order) (λ a r q k. search rules) in
    let last = IsPartitionPoint-from_clause (upto d) _ _ c.partition_point-end.ensures.partitioned (upto_parted d fs order) (λ a r q k. search rules) in
    c.split_at-2.ensures.back ∙ ap (drop c.partition_point-start.result) c.split_at.ensures.front
    ∙ within_found d fs _ _ c.partition_point-start.ensures.bound c.partition_point-end.ensures.bound first last
    ∙ ap (within d) (c.as_slice-files.ensures.value ∙ c.self.view_is)
