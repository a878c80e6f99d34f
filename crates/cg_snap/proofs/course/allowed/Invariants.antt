use Rattle.std.proofs.Common.{List, ℕ}
use Rattle.cg_line.specs.AllowedLaws.{IsAllowedBelow}
use Rattle.cg_snap.proofs.course.allowed.Given as goal

abbrev pub invariant-loop-number : goal.invariant-loop-number
invariant-loop-number g l = (form : g.row.R-Setup.Denot) (p : List ℕ) (es : List g.row.R-Part.Denot) → (g.R.Records.stream form).at l.records p es → IsAllowedBelow l.set ((g.R.Records.stream form).language) p l.number
