-- How the set of allowed bytes grows.
use Rattle.std.proofs.Common.{◌≡◌, ℕ, ◌+◌, ◌<◌, ◌≤◌, ◌⊎◌, inl, inr, ◌↔◌, Bool, List, [], ◌∷◌, arith, append_assoc}
use native.Mathlib.Decide.{dec_lt}
use Prim.{yes, no}
use Rattle.cg_text.specs.Bytes.{HasByte}
use Rattle.cg_text.specs.Texts.{Next}
use Rattle.cg_text.specs.Token.{AreBytes}
use Rattle.cg_text.specs.TokenLaws.{bytes_inside}

-- The set has the bytes below n that may come next.
abbrev pub IsAllowedBelow : List Bool → (List ℕ → Type 0) → List ℕ → ℕ → Type 0
IsAllowedBelow set L taken n = (b : ℕ) → HasByte set b ↔ ((b < n) × Next L taken b)

module _ (L : List ℕ → Type 0) (taken : List ℕ) where
  -- The byte n may come next.
  pub allowed_more : (old new : List Bool) (n : ℕ) → IsAllowedBelow old L taken n → ((other : ℕ) → HasByte new other ↔ (HasByte old other ⊎ (other ≡ n))) → Next L taken n → IsAllowedBelow new L taken (n + 1)
  allowed_more old new n h added next b =
      let to : (HasByte old b ⊎ (b ≡ n)) → (b < n + 1) × Next L taken b =
      elim [ inl k ↦ (let m = (h b).0 k in (omega (arith, m.0), m.1)) | inr e ↦ (omega (arith, e), rw e next) ] in (
        λ k. to ((added b).0 k),
        λ k. (added b).1 (elim (dec_lt b n) [ yes lt ↦ inl ((h b).1 (lt, k.1)) | no ge ↦ inr (omega (arith, ge, k.0)) ]),
      )

  -- It may not.
  pub allowed_same : (old : List Bool) (n : ℕ) → IsAllowedBelow old L taken n → (Next L taken n → ⊥) → IsAllowedBelow old L taken (n + 1)
  allowed_same old n h none b = (
    λ k. (let m = (h b).0 k in (omega (arith, m.0), m.1)),
    λ k. elim (dec_lt b n) [
      | yes lt ↦ (h b).1 (lt, k.1)
      | no ge ↦ absurd (let e : b ≡ n = omega (arith, ge, k.0) in none (rw e at k.1))
    ],
  )

  -- What may come next is a byte, where texts are of bytes.
  pub next_is_byte : ((text : List ℕ) → L text → AreBytes text) → (b : ℕ) → Next L taken b → b < 256
  next_is_byte bytes b h = bytes_inside taken h.rest b (rw (append_assoc taken (b ∷ []) h.rest) at (bytes _ h.whole))

  pub allowed_all : ((text : List ℕ) → L text → AreBytes text) → (set : List Bool) (n : ℕ) → 256 ≤ n → IsAllowedBelow set L taken n → (b : ℕ) → HasByte set b ↔ Next L taken b
  allowed_all bytes set n all h b = (λ k. ((h b).0 k).1, λ next. (h b).1 (omega (arith, next_is_byte bytes b next), next))
