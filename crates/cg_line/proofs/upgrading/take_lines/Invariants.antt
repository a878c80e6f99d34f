use Rattle.std.proofs.Common.{◌≡◌, ◌<◌, ◌+◌, ◌^◌, [], length, take, drop}
use Rattle.std.specs.List.{AllByRecursion}
use Rattle.cg_text.specs.Texts.{Lacks}
use Rattle.cg_value.specs.Lines.{unlines}
use Rattle.cg_value.specs.declared.kind.ReadForm.{ReadForm}
use Rattle.cg_line.specs.Reads.{Reads}
use Rattle.cg_line.proofs.upgrading.take_lines.Given as goal

abbrev pub invariant-loop-line : goal.invariant-loop-line
invariant-loop-line l =
    ((kind : ReadForm) → Reads l.initial.reader kind [] → AllByRecursion (Lacks 10) l.lines → Reads l.reader kind (unlines (take l.number l.lines))) ×
    (l.line-iterator ≡ drop l.number l.lines) × (l.number + length l.line-iterator ≡ length l.lines) × (length l.lines < 2 ^ 64)
