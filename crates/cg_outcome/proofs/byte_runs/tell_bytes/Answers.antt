use Rattle.std.proofs.Common.{◌≡◌, ◌++◌, ◌∷◌, [], ◌≤◌, ◌+◌, drop, get_or, length, nat_eq, refl, ap, subst, ◌∙◌, append_assoc, append-nil, arith, length-drop, List, ℕ}
use Rattle.std.proofs.lemmas.List.{drop-drop}
use Rattle.std.proofs.lemmas.Result.{err_from_is_err_and}
use Rattle.cg_outcome.specs.ByteNames.{item, items, joint, listed}
use Rattle.cg_outcome.specs.Wrote.{FailsAfter, HasWrittenText}
use Rattle.cg_outcome.proofs.ByteTold.{told_all, told_behind, told_more, told_text}
use Rattle.cg_outcome.proofs.Written.{fails_before}
use Rattle.cg_outcome.proofs.byte_runs.tell_bytes.Goals as goal

pub returns-in_err-write_part-clause-told : goal.returns-in_err-write_part-clause-told
returns-in_err-write_part-clause-told g c first text h =
    let bytes = c.args.bytes.now in
    let at = c.loop-at.at in
    let count = c.first_item-count.result.0 in
    let rest = c.split_at.result.1.now in
    let x = item (get_or rest 0 0) c.first_item-count.result.1 in
    let line = c.bytes.result.now in
    let left : length rest ≡ length (drop at bytes) = ap length c.split_at.ensures.back in
    let within : at + count ≤ length bytes = omega (arith, left, length-drop at bytes, c.first_item-count.ensures.within, c.loop-at-test.true) in
    let so = c.loop-at.invariant.told first text h in
    let line_is : line ≡ joint at (nat_eq (at + count) (length bytes)) ++ x = c.bytes.ensures ∙ c.item_line.ensures ∙ ap (λ (j : List ℕ). j ++ x) c.joint_of-joint.ensures.joint in
    let front : items 0 rest ≡ x ∷ items 0 (drop (at + count) bytes) =
    c.first_item-count.ensures.front ∙ ap (λ (t : List ℕ). x ∷ items 0 t) (ap (λ (t : List ℕ). drop count t) c.split_at.ensures.back ∙ drop-drop count at bytes) in
    let more = told_behind (at + count) (items 0 (drop (at + count) bytes)) in
    let all = told_more (so.0) (listed (items 0 bytes)) line x at (at + count) bytes rest c.split_at.ensures.back (omega (arith, c.first_item-count.ensures.some)) within (so.2) front line_is in
    let e = err_from_is_err_and c.from_residual.result c.from_residual.ensures.1 in
    let now = g.W.Sink.taken c.write_part.new.writer in
    let failed = g.W.Sink.has_failed c.write_part.new.writer in
    rw (e.1, e.2) (subst (λ (t : List ℕ). FailsAfter first now failed t c.in_err-write_part.field-0.0) (told_text text (so.0) line more (listed (items 0 bytes)) all)
    (fails_before first now failed ((text ++ so.0) ++ line) more c.in_err-write_part.field-0.0 (c.in_err-write_part.ensures.behind first (text ++ so.0) (so.1))))

pub loop-at-init : goal.loop-at-init
loop-at-init g c = record {
  within = omega arith;
  told = λ first text h. ([], rw (append-nil text) h, refl);
}

pub loop-at-preserved : goal.loop-at-preserved
loop-at-preserved g c =
    let bytes = c.args.bytes.now in
    let at = c.loop-at.at in
    let count = c.first_item-count.result.0 in
    let rest = c.split_at.result.1.now in
    let x = item (get_or rest 0 0) c.first_item-count.result.1 in
    let line = c.bytes.result.now in
    let left : length rest ≡ length (drop at bytes) = ap length c.split_at.ensures.back in
    let within : at + count ≤ length bytes = omega (arith, left, length-drop at bytes, c.first_item-count.ensures.within, c.loop-at-test.true) in
    let line_is : line ≡ joint at (nat_eq (at + count) (length bytes)) ++ x = c.bytes.ensures ∙ c.item_line.ensures ∙ ap (λ (j : List ℕ). j ++ x) c.joint_of-joint.ensures.joint in
    let front : items 0 rest ≡ x ∷ items 0 (drop (at + count) bytes) =
    c.first_item-count.ensures.front ∙ ap (λ (t : List ℕ). x ∷ items 0 t) (ap (λ (t : List ℕ). drop count t) c.split_at.ensures.back ∙ drop-drop count at bytes) in
    record {
      within = within;
      told = λ first text h.
          let so = c.loop-at.invariant.told first text h in (
            so.0 ++ line,
            rw (← append_assoc text (so.0) line) (c.in_ok-write_part.ensures.behind first (text ++ so.0) (so.1)),
            told_more (so.0) (listed (items 0 bytes)) line x at (at + count) bytes rest c.split_at.ensures.back (omega (arith, c.first_item-count.ensures.some)) within (so.2) front line_is,
          );
    }

pub returns-clause-told : goal.returns-clause-told
returns-clause-told g c first text h =
    let bytes = c.args.bytes.now in
    let so = c.loop-at.invariant.told first text h in
    subst (λ (t : List ℕ). HasWrittenText first (g.W.Sink.taken c.loop-at.writer) (text ++ t) c.loop-at.written)
    (told_all (so.0) (listed (items 0 bytes)) c.loop-at.at bytes c.loop-at-test.false (so.2)) (so.1)
