use Rattle.std.proofs.Common.{[], take}
use Rattle.cg_snap.specs.Pieces.{joined}
use Rattle.cg_snap.specs.Pulled.{HasPulled}
use Rattle.cg_snap.specs.declared.limits.Limits.{Limits}
use Rattle.cg_snap.proofs.decode.take_pieces.Given as goal

abbrev pub invariant-loop-piece : goal.invariant-loop-piece
invariant-loop-piece g l = (form : g.row.R-Setup.Denot) (limits : Limits) → HasPulled g.R.Records.stream g.R.Records.form_of l.fn.decoder form limits [] l.fn.parts.items →
    HasPulled g.R.Records.stream g.R.Records.form_of l.decoder form limits (joined (take l.piece-index l.pieces)) l.parts.items
