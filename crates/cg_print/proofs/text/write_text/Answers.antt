use Rattle.std.proofs.Common.{◌∙◌, arith, length-drop, ℕ}
use Rattle.cg_print.proofs.Known.{Appends-part}
use Rattle.cg_print.proofs.text.write_text.Goals as goal

pub pieces-preserved : goal.pieces-preserved
pieces-preserved g c = record {
  within = omega (arith, c.in-Ok.ensures.0, length-drop {A = ℕ});
  taken = Appends-part _ _ _ c.args.text.now _ _ c.pieces.invariant.taken (rw (← c.split_at.ensures.back) c.in-Ok.ensures.2);
  failed = c.in-Ok.ensures.3 ∙ c.pieces.invariant.failed;
}
