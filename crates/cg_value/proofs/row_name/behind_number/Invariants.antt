use Rattle.std.proofs.Common.{◌≡◌, ◌≤◌, drop}
use Rattle.cg_value.specs.RowName.{behind_number}
use Rattle.cg_value.proofs.row_name.behind_number.Given as goal

abbrev pub invariant-loop-place : goal.invariant-loop-place
invariant-loop-place l = record {
  small : l.number ≤ 1023;
  left : behind_number 0 l.text ≡ behind_number l.number (drop l.place l.text);
}
