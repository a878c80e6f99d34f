-- What holds of texts without a byte.
use Rattle.std.proofs.Common.{◌≡◌, ◌≢◌, ℕ, List, [], ◌∷◌, ◌++◌, refl}
use Rattle.cg_text.specs.Texts.{Lacks}

-- The byte isn't inside.
pub lacks_inside : (b : ℕ) (front more : List ℕ) → Lacks b (front ++ b ∷ more) → ⊥
lacks_inside b [] more h = h.0 refl
lacks_inside b (c ∷ front) more h = lacks_inside b front more h.1

pub lacks_both : (b : ℕ) (xs ys : List ℕ) → Lacks b xs → Lacks b ys → Lacks b (xs ++ ys)
lacks_both b [] ys h k = k
lacks_both b (x ∷ xs) ys h k = (h.0, lacks_both b xs ys h.1 k)

pub lacks_push : (b : ℕ) (xs : List ℕ) (x : ℕ) → Lacks b xs → x ≢ b → Lacks b (xs ++ x ∷ [])
lacks_push b xs x h n = lacks_both b xs (x ∷ []) h (n, tt)

-- A text that lacks the byte, and the byte: it stands there alone.
pub only_at_end : (b : ℕ) (line front more : List ℕ) → Lacks b line → line ++ b ∷ [] ≡ front ++ b ∷ more → more ≡ []
only_at_end b [] [] more h e = cc
only_at_end b [] (c ∷ front) more h e = absurd (nothing_after b front more (cc))
  where
    nothing_after : (b : ℕ) (front more : List ℕ) → [] ≡ front ++ b ∷ more → ⊥
    nothing_after b [] more e = cc
    nothing_after b (c ∷ front) more e = cc
only_at_end b (x ∷ line) [] more h e = absurd (h.0 (cc))
only_at_end b (x ∷ line) (c ∷ front) more h e = only_at_end b line front more h.1 (cc)
