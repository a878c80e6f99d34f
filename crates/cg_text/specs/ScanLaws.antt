-- What holds of the bytes that a raw line takes at once.
use Rattle.std.proofs.Common.{ℕ, zero, suc, ◌<◌, ◌↔◌, List, [], ◌∷◌, ◌++◌, take, get_or, sym, ◌∙◌, append_assoc, arith}
use Rattle.cg_text.specs.Raw.{IsRawLine}
use Rattle.cg_text.specs.RawLaws.{raw_append}
use Rattle.cg_text.specs.RawState.{IsRawRest}
use Rattle.cg_text.specs.Texts.{Lacks}

-- Bytes without a NUL and a newline are of a raw line.
pub raw_lacking : (bytes : List ℕ) (n : ℕ) → ((i : ℕ) → get_or bytes i 0 < 256) → Lacks 0 (take n bytes) → Lacks 10 (take n bytes) → IsRawLine (take n bytes)
raw_lacking [] zero small no_nul plain = tt
raw_lacking [] (suc n) small no_nul plain = tt
raw_lacking (c ∷ cs) zero small no_nul plain = tt
raw_lacking (c ∷ cs) (suc n) small no_nul plain = (omega (arith, no_nul.0), small 0, plain.0, raw_lacking cs n (λ i. small (suc i)) no_nul.1 plain.1)

raw_rest : (xs ys : List ℕ) → IsRawLine (xs ++ ys) → IsRawLine ys
raw_rest [] ys h = h
raw_rest (x ∷ xs) ys h = raw_rest xs ys h.3

-- What is left of a raw line after a run of its bytes.
pub raw_run : (taken run rest line : List ℕ) → IsRawLine run → IsRawRest (taken ++ run) rest line ↔ IsRawRest taken (run ++ rest) line
raw_run taken run rest line r = (
  λ h. record { whole = h.whole ∙ append_assoc taken run rest; raw = raw_append run rest r h.raw },
  λ h. record { whole = h.whole ∙ sym (append_assoc taken run rest); raw = raw_rest run rest h.raw },
)
