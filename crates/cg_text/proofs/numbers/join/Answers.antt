use Rattle.std.proofs.Common.{◌≤◌, ℕ, rules}
use Rattle.std.proofs.lemmas.List.Sorted.{IsNonDecreasingBy-from_sort_by_key, All-permutation}
use Rattle.cg_text.proofs.Joined.{has_permuted}
use Rattle.cg_text.proofs.numbers.join.Goals as goal

pub join_ordered-requires-clause-ranges : goal.join_ordered-requires-clause-ranges
join_ordered-requires-clause-ranges c = All-permutation (λ (x : ℕ × ℕ). x.0 ≤ x.1) _ _ c.sort_unstable_by_key.ensures.permutation c.requires

pub join_ordered-requires-clause-ordered : goal.join_ordered-requires-clause-ordered
join_ordered-requires-clause-ordered c = IsNonDecreasingBy-from_sort_by_key (λ (p : ℕ × ℕ). p.0) _ c.sort_unstable_by_key.ensures.sorted (λ a r q k. search rules)

pub returns-clause-members : goal.returns-clause-members
returns-clause-members c = λ n. (
    let a = c.join_ordered.ensures.members n in
    let b = has_permuted c.args.ranges.now.items _ n c.sort_unstable_by_key.ensures.permutation in
    (λ h. b.0 (a.0 h), λ h. a.1 (b.1 h)))
