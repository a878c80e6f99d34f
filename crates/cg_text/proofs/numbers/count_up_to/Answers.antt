use Rattle.std.proofs.Common.{◌≡◌, ◌+◌, ◌<◌, ◌↔◌, ℕ, Bool, not, IsTrue, leb, rules, of_calls}
use Rattle.std.proofs.lemmas.List.Sorted.{IsPartitionedBy-leb, IsPartitionPoint-from_clause}
use Rattle.cg_text.specs.NumbersLaws.{not_apart}
use Rattle.cg_text.proofs.Inserted.{firsts_rise, other_test, parted_up_to, all_up_to}
use Rattle.cg_text.proofs.numbers.count_up_to.Goals as goal

pub returns-in-Some-clause-parted : goal.returns-in-Some-clause-parted
returns-in-Some-clause-parted c =
    let xs = c.args.ranges.now in
    parted_up_to xs c.args.last c.partition_point.result (IsPartitionPoint-from_clause (λ (r : ℕ × ℕ). leb (r.0) (c.args.last + 1)) xs c.partition_point.result c.partition_point.ensures.partitioned
    (IsPartitionedBy-leb (λ (r : ℕ × ℕ). r.0) xs (c.args.last + 1) (firsts_rise xs c.requires))
    (λ a r q k. (
    let f : (b : Bool) × (r ≡ not b) × (IsTrue b ↔ (c.args.last + 1 < a.0.now.0)) = search (rules, of_calls) in
    (other_test r f.0 _ _ f.1 f.2, search (rules, of_calls)))))

pub returns-in_default-clause-parted : goal.returns-in_default-clause-parted
returns-in_default-clause-parted c =
    let r = c.in-Some.range.now in
    all_up_to c.args.ranges.now r c.args.last c.requires c.in-Some.ensures.item.3.1 (not_apart (c.args.last + 1) (r.0) c.is_apart.result c.if-is_apart.false c.is_apart.ensures)
