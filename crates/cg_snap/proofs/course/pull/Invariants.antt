use Rattle.std.proofs.Common.{◌≡◌, ◌++◌, ◌≤◌, ◌-◌, ℕ, List, take, length}
use Rattle.cg_snap.specs.Course.{HasProgressed}
use Rattle.cg_snap.proofs.course.pull.Given as goal

abbrev pub invariant-loop-used : goal.invariant-loop-used
invariant-loop-used g l = record {
  along : (form : g.row.R-Setup.Denot) (p : List ℕ) (es : List g.row.R-Part.Denot) →
      HasProgressed (g.R.Records.stream form) l.fn.records l.fn.meter p es →
      HasProgressed (g.R.Records.stream form) l.records l.meter (p ++ take l.used l.piece) es;
  within : l.used ≤ length l.piece;
  form : g.R.Records.form_of l.records ≡ g.R.Records.form_of l.fn.records;
  limits : l.meter.limits ≡ l.fn.meter.limits;
}

abbrev pub decreases-loop-used : goal.decreases-loop-used
decreases-loop-used g l = length l.piece - l.used
