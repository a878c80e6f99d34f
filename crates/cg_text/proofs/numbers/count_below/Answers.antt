use Rattle.std.proofs.Common.{◌+◌, ◌<◌, ◌↔◌, ℕ, IsTrue, ltb, rules, of_calls}
use Rattle.std.proofs.lemmas.List.Sorted.{IsPartitionedBy-ltb, IsPartitionPoint-from_clause}
use Rattle.cg_text.specs.NumbersLaws.{is_true}
use Rattle.cg_text.proofs.Inserted.{ends_rise, same_test, parted_below, all_below}
use Rattle.cg_text.proofs.numbers.count_below.Goals as goal

pub returns-in-Some-clause-parted : goal.returns-in-Some-clause-parted
returns-in-Some-clause-parted c =
    let xs = c.args.ranges.now in
    parted_below xs c.args.first c.partition_point.result (IsPartitionPoint-from_clause (λ (r : ℕ × ℕ). ltb (r.1 + 1) c.args.first) xs c.partition_point.result c.partition_point.ensures.partitioned
    (IsPartitionedBy-ltb (λ (r : ℕ × ℕ). r.1 + 1) xs c.args.first (ends_rise xs c.requires))
    (λ a r q k. (let f : IsTrue r ↔ (a.0.now.1 + 1 < c.args.first) = search (rules, of_calls) in (same_test r _ _ f, search (rules, of_calls)))))

pub returns-in_default-clause-parted : goal.returns-in_default-clause-parted
returns-in_default-clause-parted c =
    let r = c.in-Some.range.now in
    all_below c.args.ranges.now r c.args.first c.requires c.in-Some.ensures.item.3.1 (c.is_apart.ensures.0 (is_true c.is_apart.result c.if-not-is_apart.false))
