use Rattle.std.proofs.Common.{◌≡◌, ◌-◌, ◌++◌, ◌∷◌, [], take, length, vec_len, arith, ap, sym, ◌∙◌}
use Rattle.cg_text.specs.RawLaws.{closed_front, closed_reason}
use Rattle.cg_text.proofs.reason.ReasonTextToken.take.Goals as goal

pub returns-clause-value : goal.returns-clause-value
returns-clause-value c =
    let s = c.args.self in
    let count : vec_len s.bytes ≡ length s.bytes.items = omega (arith, s.bytes.ok.0) in
    let front : c.of.result ≡ take (length s.bytes.items - 1) s.bytes.items = c.of.ensures ∙ c.pop.ensures.rest ∙ ap (λ n. take (n - 1) s.bytes.items) count in
    closed_reason s.bytes.items c.of.result s.raw (closed_front s.bytes.items c.requires ∙ ap (λ xs. xs ++ 41 ∷ []) (sym front))
