use Rattle.std.proofs.Common.{◌≡◌, ℕ, ◌+◌, ◌-◌, ◌<◌, length, get_or}
use Rattle.cg_index.proofs.position.first_difference.Given as goal

abbrev pub invariant-loop-place : goal.invariant-loop-place
invariant-loop-place l = (k : ℕ) → k < l.place → get_or l.a k 0 ≡ get_or l.b k 0

abbrev pub decreases-loop-place : goal.decreases-loop-place
decreases-loop-place l = length l.a + length l.b - l.place
