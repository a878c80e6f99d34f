use Rattle.std.proofs.Common.{◌≡◌, ◌∷◌, ◌++◌, [], get_or, inl, inr, length, take, ◌∙◌, ap, arith}
use Rattle.std.proofs.lemmas.List.{take_all, take_more}
use Rattle.cg_text.specs.PlainLaws.{plain_front}
use Rattle.cg_line.proofs.push.line_front.Goals as goal

pub returns-then-count-bytes-clause-ends : goal.returns-then-count-bytes-clause-ends
returns-then-count-bytes-clause-ends c =
    let bytes = c.args.bytes.now in
    let n = c.count_before-count.result in
    let end : get_or bytes n 0 ≡ 10 = c.count_before-count.ensures.stops c.if-count-bytes.true in
    inr (take n bytes, take_more bytes n 0 c.if-count-bytes.true ∙ ap (λ b. take n bytes ++ b ∷ []) end, c.count_before-count.ensures.lacks)

pub returns-then-count-bytes-clause-plain : goal.returns-then-count-bytes-clause-plain
returns-then-count-bytes-clause-plain c = λ used few.
    plain_front 10 c.args.bytes.now used c.count_before-count.result (omega (arith, few)) c.count_before-count.ensures.lacks

pub returns-else-count-bytes-clause-ends : goal.returns-else-count-bytes-clause-ends
returns-else-count-bytes-clause-ends c =
    let bytes = c.args.bytes.now in
    let n = c.count_before-count.result in
    let whole : n ≡ length bytes = omega (arith, c.count_before-count.ensures.within, c.if-count-bytes.false) in
    let all : take n bytes ≡ bytes = take_all n bytes (omega (arith, whole)) in
    inl (whole, rw all at c.count_before-count.ensures.lacks)

pub returns-else-count-bytes-clause-plain : goal.returns-else-count-bytes-clause-plain
returns-else-count-bytes-clause-plain c = λ used few.
    plain_front 10 c.args.bytes.now used c.count_before-count.result (omega (arith, few)) c.count_before-count.ensures.lacks
