use Rattle.std.proofs.Common.{ℕ, List, ◌++◌, ◌≤◌, ◌-◌, length, take}
use Rattle.cg_snap.specs.Pulled.{HasPulled}
use Rattle.cg_snap.specs.declared.limits.Limits.{Limits}
use Rattle.cg_snap.proofs.decode.take_piece.Given as goal

abbrev pub invariant-loop-used : goal.invariant-loop-used
invariant-loop-used g l = record {
  taken : (form : g.row.R-Setup.Denot) (limits : Limits) (p : List ℕ) → HasPulled g.R.Records.stream g.R.Records.form_of l.fn.decoder form limits p l.fn.parts.items →
      HasPulled g.R.Records.stream g.R.Records.form_of l.decoder form limits (p ++ take l.used l.piece) l.parts.items;
  within : l.used ≤ length l.piece;
}

abbrev pub decreases-loop-used : goal.decreases-loop-used
decreases-loop-used g l = length l.piece - l.used
