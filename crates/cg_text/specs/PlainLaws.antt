-- What holds of bytes in front of a byte.
use Rattle.std.proofs.Common.{◌≢◌, ℕ, zero, suc, ◌≤◌, ◌<◌, List, [], ◌∷◌, take, get_or, refl, arith, eq-eqb}
use Rattle.memchr.specs.Find.{Nowhere, Passes, is_byte}
use Rattle.cg_text.specs.Texts.{Lacks}

plain_at : (b : ℕ) (bytes : List ℕ) (n : ℕ) → ((i : ℕ) → i < n → get_or bytes i 0 ≢ b) → Lacks b (take n bytes)
plain_at b [] zero other = tt
plain_at b [] (suc n) other = tt
plain_at b (c ∷ cs) zero other = tt
plain_at b (c ∷ cs) (suc n) other = (other 0 (omega arith), plain_at b cs n (λ i h. other (suc i) (omega (arith, h))))

-- Where a search finds no such byte in front of a place, the bytes there lack it.
pub plain_searched : (b : ℕ) (bytes : List ℕ) (n : ℕ) → Nowhere (Passes (is_byte b) bytes) 0 n → Lacks b (take n bytes)
plain_searched b bytes n none = plain_at b bytes n (λ i h e. none i (omega arith) h (rw e (eq-eqb b b refl)))

-- Fewer of the bytes lack it too.
pub plain_front : (b : ℕ) (bytes : List ℕ) (used n : ℕ) → used ≤ n → Lacks b (take n bytes) → Lacks b (take used bytes)
plain_front b [] zero n few plain = tt
plain_front b [] (suc used) n few plain = tt
plain_front b (c ∷ cs) zero n few plain = tt
plain_front b (c ∷ cs) (suc used) zero few plain = absurd (omega (arith, few))
plain_front b (c ∷ cs) (suc used) (suc n) few plain = (plain.0, plain_front b cs used n (omega (arith, few)) plain.1)
