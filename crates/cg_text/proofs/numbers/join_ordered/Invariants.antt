use Rattle.std.proofs.Common.{◌≡◌, ◌<◌, ◌++◌, take, drop, vec_len}
use Rattle.cg_text.proofs.Joined.{joined, joined_all}
use Rattle.cg_text.proofs.numbers.join_ordered.Given as goal

abbrev pub invariant-loop-at : goal.invariant-loop-at
invariant-loop-at l = record {
  within : l.done < l.at;
  len : vec_len l.ranges ≡ vec_len l.fn.ranges;
  whole : take l.done l.ranges.items ++ joined l.low l.high (drop l.at l.ranges.items) ≡ joined_all l.fn.ranges.items;
}
