use Rattle.std.proofs.Common.{◌≡◌, ◌<◌, ◌≤◌, ℕ, List, ◌++◌, map, length, take, sym, ap, subst, ◌∙◌, append_assoc, take-append-drop, arith, length-drop}
use Rattle.std.proofs.lemmas.List.{take_all}
use Rattle.cg_snap.specs.Decode.{HasTaken}
use Rattle.cg_run.specs.Shown.{HasShown, IsShownBehind}
use Rattle.cg_run.specs.Stream.{shown_part}
use Rattle.cg_run.proofs.Decoding.{left_leads}
use Rattle.cg_run.proofs.Finds.{no_more}
use Rattle.cg_run.proofs.Showing.{all_are, behind_more, closed_shown, rest_starved, text_starved}
use Rattle.cg_run.proofs.shown.ShownReaderStreamReader.next.Goals as goal

pub returns-in-Err-clause-found : goal.returns-in-Err-clause-found
returns-in-Err-clause-found c form p parts h =
    let d = c.decode-decoded.ensures.decoded (form.0) (form.1) p h.es h.taken in
    no_more c.in-Err.ensures.0
    (text_starved (form.0) (form.1) p c.args.piece.now h.es d.more parts c.decode-decoded.result.closed h.parts_are
    (subst (λ (t : List ℕ). 0 < length t) c.split_at.ensures.front c.in-Err.ensures.1) d.close)

pub returns-in-Ok-append_shown-clause-found : goal.returns-in-Ok-append_shown-clause-found
returns-in-Ok-append_shown-clause-found c form p parts h =
    let piece = c.args.piece.now in
    let used = c.decode-decoded.result.used in
    let closed = c.decode-decoded.result.closed in
    let now = c.decode-decoded.new.decoder in
    let front = c.split_at.result.0.now in
    let rest = c.split_at.result.1.now in
    let d = c.decode-decoded.ensures.decoded (form.0) (form.1) p h.es h.taken in
    let left = rw c.in-NeedMore.is at d.left in
    let es = h.es ++ d.more in
    let within : closed ≤ length piece = omega (arith, c.decode-decoded.ensures.closed, c.decode-decoded.ensures.used) in
    let lines = c.in-Ok.ensures in
    let kept = c.append_closed.new.text.items in
    let cut = closed_shown c.args.self.now.present.items kept (form.0) (form.1) p piece h.es d.more closed h.behind front (lines.0) c.split_at.ensures.front lines.2 d.close within in
    let all : take used piece ≡ piece = take_all used piece (omega (arith, left.1)) in
    let whole : (p ++ front) ++ rest ≡ p ++ take used piece =
    append_assoc p front rest ∙ ap (λ (t : List ℕ). p ++ (t ++ rest)) c.split_at.ensures.front ∙ ap (λ (t : List ℕ). p ++ (take closed piece ++ t)) c.split_at.ensures.back
    ∙ ap (λ (t : List ℕ). p ++ t) (take-append-drop closed piece ∙ sym all) in
    let shown = c.append_shown.new.text.items in
    record {
      more = map shown_part d.more;
      out_is = lines.1 ∙ ap (λ t. c.args.out.now.items ++ t) cut.0;
      leads = record {
        es = es;
        taken = subst (λ (t : List ℕ). HasTaken now (form.0) (form.1) (p ++ t) es) (sym all) left.0;
        parts_are = all_are (form.0) (form.1) p piece h.es d.more parts closed h.parts_are;
        behind = subst (λ (t : List ℕ). IsShownBehind shown t es) whole (behind_more kept (p ++ front) es cut.1 rest shown c.in-Ok-append_shown.ensures);
      };
    }

pub returns-in-Ok-append_shown-clause-progress : goal.returns-in-Ok-append_shown-clause-progress
returns-in-Ok-append_shown-clause-progress c = rw c.in-NeedMore.is at c.decode-decoded.ensures.progress

pub returns-in-Err-append_shown-clause-found : goal.returns-in-Err-append_shown-clause-found
returns-in-Err-append_shown-clause-found c form p parts h =
    let piece = c.args.piece.now in
    let closed = c.decode-decoded.result.closed in
    let front = c.split_at.result.0.now in
    let rest = c.split_at.result.1.now in
    let d = c.decode-decoded.ensures.decoded (form.0) (form.1) p h.es h.taken in
    let left = rw c.in-NeedMore.is at d.left in
    let within : closed ≤ length piece = omega (arith, c.decode-decoded.ensures.closed, c.decode-decoded.ensures.used) in
    let some : 0 < length rest = c.in-Err-append_shown.ensures.1 in
    let less : closed < length piece = omega (arith, some, ap length c.split_at.ensures.back, length-drop closed piece) in
    let lines = c.in-Ok.ensures in
    let cut = closed_shown c.args.self.now.present.items c.append_closed.new.text.items (form.0) (form.1) p piece h.es d.more closed h.behind front (lines.0) c.split_at.ensures.front lines.2 d.close within in
    record {
      more = map shown_part d.more;
      out_is = lines.1 ∙ ap (λ t. c.args.out.now.items ++ t) cut.0;
      leads = rest_starved (form.0) (form.1) p piece h.es d.more parts closed h.parts_are c.args.self.now.decoder c.decode-decoded.new.decoder less h.taken left.0 d.close;
    }

pub returns-in_default-clause-found : goal.returns-in_default-clause-found
returns-in_default-clause-found c form p parts h =
    let piece = c.args.piece.now in
    let closed = c.decode-decoded.result.closed in
    let front = c.split_at.result.0.now in
    let d = c.decode-decoded.ensures.decoded (form.0) (form.1) p h.es h.taken in
    let within : closed ≤ length piece = omega (arith, c.decode-decoded.ensures.closed, c.decode-decoded.ensures.used) in
    let lines = c.in-Ok.ensures in
    let cut = closed_shown c.args.self.now.present.items c.append_closed.new.text.items (form.0) (form.1) p piece h.es d.more closed h.behind front (lines.0) c.split_at.ensures.front lines.2 d.close within in
    record {
      more = map shown_part d.more;
      out_is = lines.1 ∙ ap (λ t. c.args.out.now.items ++ t) cut.0;
      leads = left_leads (form.0) (form.1) p piece (h.es ++ d.more) (parts ++ map shown_part d.more) (all_are (form.0) (form.1) p piece h.es d.more parts closed h.parts_are) c.decode-decoded.new.decoder
          (HasShown (record { decoder = c.decode-decoded.new.decoder; present = c.append_closed.new.text }) form)
          c.decode-decoded.result.what c.decode-decoded.result.used c.in_default.not-NeedMore d.left;
    }

pub returns-in_default-clause-progress : goal.returns-in_default-clause-progress
returns-in_default-clause-progress c = c.decode-decoded.ensures.progress

pub returns-in_default-clause-stood : goal.returns-in_default-clause-stood
returns-in_default-clause-stood c form p parts h = c.decode-decoded.ensures.stood (form.0) (form.1) p h.es h.taken
