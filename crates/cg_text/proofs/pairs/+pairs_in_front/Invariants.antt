use Rattle.std.proofs.Common.{length}
use Rattle.cg_text.proofs.pairs.+pairs_in_front.Given as goal

abbrev pub decreases-pairs_in_front : goal.decreases-pairs_in_front
decreases-pairs_in_front l = length l.bytes.now
