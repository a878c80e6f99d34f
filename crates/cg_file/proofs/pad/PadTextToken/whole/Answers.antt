use Rattle.std.proofs.Common.{◌≡◌, ◌+◌, [], ◌∷◌, ◌++◌, inr, take, drop, refl, ◌∙◌, ap, append_assoc, arith}
use Rattle.std.proofs.Math.Seq.{take-add}
use Rattle.cg_value.specs.ReadLine.{pad_text}
use Rattle.cg_file.proofs.pad.PadTextToken.whole.Goals as goal

pub returns-in-Some-whole-clause-front : goal.returns-in-Some-whole-clause-front
returns-in-Some-whole-clause-front g c =
    let bytes = c.args.bytes.now in
    let pad = c.in-Some.found in
    let more = c.in-Some-whole.more in
    let text = rw c.split_at.ensures.back at c.in-Some-whole.ensures.front in
    let back = take more (drop pad.1 bytes) in
    let whole : take (pad.1 + more) bytes ≡ pad_text pad.0 ++ 32 ∷ back =
    take-add pad.1 more bytes ∙ ap (λ xs. xs ++ back) c.in-Some.ensures.1 ∙ append_assoc (pad_text pad.0) (32 ∷ []) back in (
      omega (arith, c.in-Some.ensures.0, c.in-Some-whole.ensures.front.0, c.split_at.ensures.back_len),
      rw c.in-Before.is (32 ∷ back, whole, inr (back, refl, text.1)),
    )
