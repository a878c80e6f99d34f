use Rattle.std.proofs.Common.{◌≡◌, ◌≤◌, take}
use Rattle.cg_text.specs.Decimal.{AreDigits, read_on}
use Rattle.cg_text.proofs.decimal.take_digits.Given as goal

abbrev pub invariant-loop-i : goal.invariant-loop-i
invariant-loop-i l = record {
  digits : AreDigits (take l.i l.bytes);
  number : l.number ≡ read_on l.n (take l.i l.bytes);
  low : l.n ≤ l.number;
  high : l.number ≤ l.hi;
}
