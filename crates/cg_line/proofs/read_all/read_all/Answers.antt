use Rattle.std.proofs.Common.{◌≡◌, ◌≤◌, ap, drop, length, arith, length-drop}
use Rattle.std.proofs.lemmas.List.{take_all as all_taken}
use Rattle.cg_text.specs.Texts.{TextOf}
use Rattle.cg_line.specs.DecodeLaws.{run_on, run_refused, run_starved}
use Rattle.cg_line.specs.Rests.{IsAfter}
use Rattle.cg_line.specs.RestsLaws.{after_none, read_run, whole_is}
use Rattle.cg_line.proofs.read_all.read_all.Goals as goal

pub loop-at-init : goal.loop-at-init
loop-at-init g c = record { within = omega arith; after = after_none g.T.Token.means g.T.Token.size c.args.text (g.T.Token.completes c.args.text) }

pub loop-at-preserved : goal.loop-at-preserved
loop-at-preserved g c =
    let new = c.push_run_to-run.new.text in
    let bytes = c.args.bytes.now in
    let rest = c.split_at.result.1.now in
    let run = c.push_run_to-run.result in
    let at = c.loop-at.at in
    let left : length rest ≡ length (drop at bytes) = ap length c.split_at.ensures.back in
    let pushed = read_run c.loop-at.invariant.after (g.T.Token.means new) (g.T.Token.size new) rest run c.push_run_to-run.ensures.pushed in
    record {
      within = omega (arith, left, length-drop at bytes, c.push_run_to-run.ensures.within, c.loop-at.invariant.within);
      after = run_on (IsAfter g.T.Token.means g.T.Token.size c.args.text new) bytes rest at run.used c.split_at.ensures.back pushed.reads;
    }

pub returns-in-Some-Refused : goal.returns-in-Some-Refused
returns-in-Some-Refused g c =
    let new = c.push_run_to-run.new.text in
    let bytes = c.args.bytes.now in
    let rest = c.split_at.result.1.now in
    let run = c.push_run_to-run.result in
    let pushed = read_run c.loop-at.invariant.after (g.T.Token.means new) (g.T.Token.size new) rest run c.push_run_to-run.ensures.pushed in
    let fault = rw c.in-Some-Refused.is at c.in-Some-Refused.field-0-is in
    let stops = rw (c.in-Some-Refused.is, fault) at pushed.stops in
    run_refused (TextOf (g.T.Token.means c.args.text)) bytes rest c.loop-at.at run.used c.split_at.ensures.back stops.0 pushed.reads.viable stops.2

pub returns-in-Some-OutOfMemory : goal.returns-in-Some-OutOfMemory
returns-in-Some-OutOfMemory g c =
    let new = c.push_run_to-run.new.text in
    let bytes = c.args.bytes.now in
    let rest = c.split_at.result.1.now in
    let run = c.push_run_to-run.result in
    let pushed = read_run c.loop-at.invariant.after (g.T.Token.means new) (g.T.Token.size new) rest run c.push_run_to-run.ensures.pushed in
    let fault = rw c.in-Some-OutOfMemory.is at c.in-Some-OutOfMemory.field-0-is in
    let stops = rw (c.in-Some-OutOfMemory.is, fault) at pushed.stops in
    run_starved (TextOf (g.T.Token.means c.args.text)) bytes rest c.loop-at.at run.used c.split_at.ensures.back stops.0 stops.2

pub returns-else-can_end : goal.returns-else-can_end
returns-else-can_end g c =
    let bytes = c.args.bytes.now in
    let done : length bytes ≤ c.loop-at.at = omega arith in
    let all = rw (all_taken c.loop-at.at bytes done) at c.loop-at.invariant.after in
    let whole = whole_is all (g.T.Token.ends c.loop-at.text) c.can_end.result (g.T.Token.ends_is c.loop-at.text) c.can_end.ensures in
    record { at_end = omega (arith, done, c.loop-at.invariant.within); viable = all.viable; not_whole = λ w. (let ends = whole.1 w in let not = c.if-can_end.false in cc) }
