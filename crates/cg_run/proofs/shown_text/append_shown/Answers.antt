use Rattle.std.proofs.Common.{◌≡◌, length, drop, sym, ap, ◌∙◌, append-nil, length-drop, arith}
use Rattle.cg_run.proofs.ShowsBytes.{shows_rest}
use Rattle.cg_run.proofs.shown_text.append_shown.Goals as goal

pub loop-used-init : goal.loop-used-init
loop-used-init c = record { within = omega arith; shows = c.try_reserve.ensures.items ∙ sym (append-nil c.args.text.now.items) }

pub loop-used-preserved : goal.loop-used-preserved
loop-used-preserved c =
    let bytes = c.args.bytes.now in
    let used = c.loop-used.used in
    let rest = c.split_at.result.1.now in
    let took = c.in_ok-used.ensures in
    let left : length rest ≡ length (drop used bytes) = ap length c.split_at.ensures.back in
    record {
      within = omega (arith, took.1, left, length-drop used bytes, c.loop-used.invariant.within);
      shows = shows_rest c.args.text.now.items c.loop-used.text.items c.append_some.new.text.items bytes rest used c.in_ok-used.field-0 c.split_at.ensures.back c.loop-used.invariant.shows took.2;
    }
