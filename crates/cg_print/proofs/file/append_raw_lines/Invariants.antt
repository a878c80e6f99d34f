use Rattle.std.proofs.Common.{◌≡◌, ◌++◌}
use Rattle.cg_print.specs.Headed.{headed}
use Rattle.cg_print.proofs.file.append_raw_lines.Given as goal

abbrev pub invariant-loop-line : goal.invariant-loop-line
invariant-loop-line l = l.text.items ++ headed l.head l.line-iterator ≡ l.initial.text.items ++ headed l.head l.lines
