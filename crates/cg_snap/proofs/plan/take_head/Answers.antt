use Rattle.std.proofs.Common.{◌++◌, ◌∷◌, [], ◌+◌, ◌<◌, ◌≡◌, ◌∙◌, ℕ, List, take, length, get_or, sym, ap, subst, append_assoc, append-nil, arith, inl, inr}
use Rattle.std.proofs.lemmas.List.{length-append, length-drop, length-take-le, take_more}
use Rattle.cg_text.specs.Texts.{Lacks}
use Rattle.cg_text.specs.TextsLaws.{lacks_both, lacks_push}
use Rattle.cg_value.specs.Entry.{IsPathByte}
use Rattle.cg_snap.specs.PathBytes.{ArePathBytes}
use Rattle.cg_snap.specs.PlanLaws.{item_line_plain}
use Rattle.cg_snap.specs.PlanState.{HasConsumedItems}
use Rattle.cg_snap.proofs.Courses.{taken_more}
use Rattle.cg_snap.proofs.PlanFronts.{item_came, record_front}
use Rattle.cg_snap.proofs.PlanStates.{item_path_next, item_path_taken, items_back}
use Rattle.cg_snap.proofs.States.{named_path}
use Rattle.cg_snap.proofs.Steps.{all_both, bytes_no_newline}
use Rattle.cg_snap.proofs.plan.take_head.Goals as goal

pub returns-in-Err-clause-left : goal.returns-in-Err-clause-left
returns-in-Err-clause-left c = λ p items n h at max.
    let profile = c.args.profile in
    let begins = c.in-Err.ensures in
    let byte = begins.0.1 in
    rw (append-nil p, begins.1) (
      begins.0.0,
      items_back profile c.args.begun.now.items c.args.present.now p items n h,
      item_path_next profile c.args.begun.now.items p items _ h (λ z. omega (arith, z, byte.0)) byte.2 byte.1,
      λ many. many,
    )

pub returns-then-used-bytes-clause-of_record : goal.returns-then-used-bytes-clause-of_record
returns-then-used-bytes-clause-of_record c = λ p items n h. inl (bytes_no_newline _ c.in-Ok.ensures.0.plain)

pub returns-in-Err-kind_after-clause-left : goal.returns-in-Err-kind_after-clause-left
returns-in-Err-kind_after-clause-left c = λ p items n h at max.
    let bytes = c.args.bytes.now in
    let used = c.in-Ok.used in
    let front = c.in-Ok.ensures in
    let state = item_path_taken c.args.profile c.args.begun.now.items c.take_path.new.begun.items p items (take used bytes) h front.0.plain front.1 in
    let other = c.if-used-bytes.false in (
      omega (arith, front.0.within, other),
      items_back c.args.profile c.take_path.new.begun.items c.args.present.now (p ++ take used bytes) items n state,
      (omega (arith, at, length-append p (take used bytes), length-take-le used bytes front.0.within), c.in-Err-kind_after.ensures.after (p ++ take used bytes) items state),
    )

pub returns-in-Err-kind_after-clause-of_record : goal.returns-in-Err-kind_after-clause-of_record
returns-in-Err-kind_after-clause-of_record c = λ p items n h. inl (bytes_no_newline _ c.in-Ok.ensures.0.plain)

pub begin_line-requires : goal.begin_line-requires
begin_line-requires c =
    let front = c.in-Ok.ensures in
    let k = c.in-Ok-kind_after.ensures.kind in
    let plain : ArePathBytes c.take_path.new.begun.items = rw front.1 (all_both IsPathByte c.args.begun.now.items (take c.in-Ok.used c.args.bytes.now) c.requires.path front.0.plain) in
    record { good = named_path c.take_path.new.begun.items plain k.0; profile = c.args.profile; writes_at = k.1 }

pub returns-in-Some-clause-left : goal.returns-in-Some-clause-left
returns-in-Some-clause-left c = λ p items n h at max.
    let bytes = c.args.bytes.now in
    let used = c.in-Ok.used in
    let begun = c.take_path.new.begun.items in
    let front = c.in-Ok.ensures in
    let other = c.if-used-bytes.false in
    let lt : used < length bytes = omega (arith, front.0.within, other) in
    let state = item_path_taken c.args.profile c.args.begun.now.items begun p items (take used bytes) h front.0.plain front.1 in
    let after = c.in-Ok-kind_after.ensures.after (p ++ take used bytes) items state in
    let came = c.in-Some.ensures.begun c.args.profile (p ++ take used bytes) items n state after.1 in
    let line = came.0.2 in
    let text : p ++ (take used bytes ++ 0 ∷ line.0) ≡ state.given ++ (begun ++ 0 ∷ line.0) = sym (append_assoc p (take used bytes) (0 ∷ line.0)) ∙ (ap (λ (t : List ℕ). t ++ 0 ∷ line.0) state.split ∙ append_assoc state.given begun (0 ∷ line.0)) in
    item_came c.args.profile p state.given begun line.0 items c.in-Some.item bytes (take used bytes ++ 0 ∷ line.0) (used + 1 + c.in-Some.line) c.begin_line.new.begun.items c.begin_line.new.present
    state.whole (bytes_no_newline begun state.begun_path) came.0.0 line.1 (omega (arith, came.0.1, lt, ap length c.split_at.ensures.back, length-drop (used + 1) bytes))
    (record_front bytes c.split_at.result.1.now line.0 used c.in-Some.line lt after.0 c.split_at.ensures.back line.2) text c.begin_line.ensures.path came.1

pub returns-in-Some-clause-of_record : goal.returns-in-Some-clause-of_record
returns-in-Some-clause-of_record c = λ p items n h.
    let bytes = c.args.bytes.now in
    let used = c.in-Ok.used in
    let front = c.in-Ok.ensures in
    let other = c.if-used-bytes.false in
    let state = item_path_taken c.args.profile c.args.begun.now.items c.take_path.new.begun.items p items (take used bytes) h front.0.plain front.1 in
    let after = c.in-Ok-kind_after.ensures.after (p ++ take used bytes) items state in
    let line = (c.in-Some.ensures.begun c.args.profile (p ++ take used bytes) items n state after.1).0.2 in
    inr (
      take used bytes ++ 0 ∷ line.0,
      record_front bytes c.split_at.result.1.now line.0 used c.in-Some.line (omega (arith, front.0.within, other)) after.0 c.split_at.ensures.back line.2,
      lacks_both 10 (take used bytes) (0 ∷ line.0) (bytes_no_newline (take used bytes) front.0.plain) ((λ e. omega (arith, e)), item_line_plain c.args.profile c.in-Some.item line.0 line.1),
    )

pub returns-in-None-clause-left : goal.returns-in-None-clause-left
returns-in-None-clause-left c = λ p items n h at max.
    let bytes = c.args.bytes.now in
    let used = c.in-Ok.used in
    let front = c.in-Ok.ensures in
    let other = c.if-used-bytes.false in
    let state = item_path_taken c.args.profile c.args.begun.now.items c.take_path.new.begun.items p items (take used bytes) h front.0.plain front.1 in
    let after = c.in-Ok-kind_after.ensures.after (p ++ take used bytes) items state in
    subst (λ (t : List ℕ). HasConsumedItems c.args.profile c.begin_line.new.begun.items c.begin_line.new.present t items)
    (ap (λ (b : ℕ). (p ++ take used bytes) ++ b ∷ []) (sym after.0) ∙ taken_more p bytes used (omega (arith, front.0.within, other)))
    (c.in-None.ensures.begun c.args.profile (p ++ take used bytes) items n state after.1)

pub returns-in-None-clause-of_record : goal.returns-in-None-clause-of_record
returns-in-None-clause-of_record c = λ p items n h.
    let bytes = c.args.bytes.now in
    let used = c.in-Ok.used in
    let front = c.in-Ok.ensures in
    let other = c.if-used-bytes.false in
    let state = item_path_taken c.args.profile c.args.begun.now.items c.take_path.new.begun.items p items (take used bytes) h front.0.plain front.1 in
    let after = c.in-Ok-kind_after.ensures.after (p ++ take used bytes) items state in
    inl (subst (Lacks 10) (sym (take_more bytes used 0 (omega (arith, front.0.within, other)))) (lacks_push 10 (take used bytes) (get_or bytes used 0) (bytes_no_newline (take used bytes) front.0.plain) (λ e. omega (arith, e, after.0))))
