use Rattle.std.proofs.Common.{◌++◌, ◌∙◌, codes, sym, ap, append_assoc, List, ℕ}
use Rattle.std.proofs.lemmas.Result.{err_from_is_err_and}
use Rattle.cg_outcome.specs.ByteNames.{items, listed, set_words}
use Rattle.cg_outcome.proofs.ByteTold.{set_any, set_few, set_none, set_others}
use Rattle.cg_outcome.proofs.SpotTold.{comes_as}
use Rattle.cg_outcome.proofs.Written.{fails_whole}
use Rattle.cg_outcome.proofs.byte_runs.tell_set.Goals as goal

pub returns-then-is_empty-clause-told : goal.returns-then-is_empty-clause-told
returns-then-is_empty-clause-told g c first text h =
    let within = c.bytes-within.result.now in
    let e = set_none c.args.set.now within (c.bytes-within.ensures ∙ c.bytes_of-taken.ensures) (sym c.is_empty.ensures ∙ c.if-is_empty.true) in
    comes_as first (g.W.Sink.taken c.write_part.new.writer) (g.W.Sink.has_failed c.write_part.new.writer) c.write_part.new.written (text ++ codes "nothing") (text ++ set_words c.args.set.now) c.write_part.result
    (ap (λ (t : List ℕ). text ++ t) (sym e)) (c.write_part.ensures.behind first text h)

pub returns-then-within-le128-clause-told : goal.returns-then-within-le128-clause-told
returns-then-within-le128-clause-told g c first text h =
    let within = c.bytes-within.result.now in
    let e = set_few c.args.set.now within (c.bytes-within.ensures ∙ c.bytes_of-taken.ensures) (sym c.is_empty.ensures ∙ c.if-is_empty.false) c.if-within-le128.true in
    comes_as first (g.W.Sink.taken c.tell_bytes.new.writer) (g.W.Sink.has_failed c.tell_bytes.new.writer) c.tell_bytes.new.written (text ++ listed (items 0 within)) (text ++ set_words c.args.set.now) c.tell_bytes.result
    (ap (λ (t : List ℕ). text ++ t) (sym e)) (c.tell_bytes.ensures.told first text h)

pub returns-then-is_empty-2-clause-told : goal.returns-then-is_empty-2-clause-told
returns-then-is_empty-2-clause-told g c first text h =
    let within = c.bytes-within.result.now in
    let after = c.write_part-then-is_empty-2 in
    let e = set_any c.args.set.now within (c.bytes-within.ensures ∙ c.bytes_of-taken.ensures) (sym c.is_empty.ensures ∙ c.if-is_empty.false) c.if-within-le128.false
    c.bytes-others.result.now (c.bytes-others.ensures ∙ c.bytes_of-left.ensures) (sym c.is_empty-2.ensures ∙ c.if-is_empty-2.true) in
    comes_as first (g.W.Sink.taken after.new.writer) (g.W.Sink.has_failed after.new.writer) after.new.written (text ++ codes "any byte") (text ++ set_words c.args.set.now) after.result
    (ap (λ (t : List ℕ). text ++ t) (sym e)) (after.ensures.behind first text h)

pub returns-in_err-write_part-clause-told : goal.returns-in_err-write_part-clause-told
returns-in_err-write_part-clause-told g c first text h =
    let within = c.bytes-within.result.now in
    let others = c.bytes-others.result.now in
    let e = set_others c.args.set.now within (c.bytes-within.ensures ∙ c.bytes_of-taken.ensures) (sym c.is_empty.ensures ∙ c.if-is_empty.false) c.if-within-le128.false
    others (c.bytes-others.ensures ∙ c.bytes_of-left.ensures) (sym c.is_empty-2.ensures ∙ c.if-is_empty-2.false) in
    let r = err_from_is_err_and c.from_residual.result c.from_residual.ensures.1 in
    rw (r.1, r.2) (fails_whole first (g.W.Sink.taken c.write_part-2.new.writer) (g.W.Sink.has_failed c.write_part-2.new.writer) (text ++ codes "any byte but ") (listed (items 0 others)) (text ++ set_words c.args.set.now)
    c.in_err-write_part.field-0.0 (append_assoc text (codes "any byte but ") (listed (items 0 others)) ∙ ap (λ (t : List ℕ). text ++ t) (sym e)) (c.in_err-write_part.ensures.behind first text h))

pub returns-clause-told : goal.returns-clause-told
returns-clause-told g c first text h =
    let within = c.bytes-within.result.now in
    let others = c.bytes-others.result.now in
    let after = c.tell_bytes-2 in
    let e = set_others c.args.set.now within (c.bytes-within.ensures ∙ c.bytes_of-taken.ensures) (sym c.is_empty.ensures ∙ c.if-is_empty.false) c.if-within-le128.false
    others (c.bytes-others.ensures ∙ c.bytes_of-left.ensures) (sym c.is_empty-2.ensures ∙ c.if-is_empty-2.false) in
    comes_as first (g.W.Sink.taken after.new.writer) (g.W.Sink.has_failed after.new.writer) after.new.written ((text ++ codes "any byte but ") ++ listed (items 0 others)) (text ++ set_words c.args.set.now) after.result
    (append_assoc text (codes "any byte but ") (listed (items 0 others)) ∙ ap (λ (t : List ℕ). text ++ t) (sym e)) (after.ensures.told first (text ++ codes "any byte but ") (c.in_ok-write_part.ensures.behind first text h))
