-- What holds of one line.
use Rattle.std.proofs.Common.{◌≡◌, ℕ, ◌↔◌, List, [], ◌∷◌, ◌++◌, refl}
use Rattle.cg_text.specs.Token.{Spells}
use Rattle.cg_join.specs.Join.{AreApart, IsPair}
use Rattle.cg_join.specs.Mapped.{IsMapped}
use Rattle.cg_join.specs.Spelling.{IsConcat, IsMappedText, sequence_spells, mapped_spells, spells_as}
use Rattle.cg_join.specs.Line.{LacksByte, IsLine}

newline_first : (byte : ℕ) (back : List ℕ) → byte ∷ back ≡ 10 ∷ [] → byte ≡ 10
newline_first byte back e = cc

pub line_apart : {S T V W : Type 0} (A : S → List ℕ → V → Type 0) (s : S) {B : T → List ℕ → W → Type 0} {t : T} → LacksByte (A s) 10 → Spells B t (λ rest _. rest ≡ 10 ∷ []) → AreApart A B s t
line_apart A s lacks b front more back byte v u w h k l =
    let e : byte ≡ 10 = newline_first byte back ((b.is (byte ∷ back) w).0 l) in
    lacks front more u (rw e at k)

module _ {S V : Type 0} (A : S → List ℕ → V → Type 0) (s : S) where
  line_is : (text : List ℕ) (v : V × Unit {0}) → IsConcat (A s) (λ rest (_ : Unit {0}). rest ≡ 10 ∷ []) text v ↔ IsLine (A s) text v
  line_is text v = (
    λ h. record { front = h.front; whole = rw h.ends at h.whole; spells = h.begins },
    λ h. record { front = h.front; back = 10 ∷ []; whole = h.whole; begins = h.spells; ends = refl },
  )

  pub self_spells : Spells A s (A s)
  self_spells = record { is = λ rest v. (λ h. h, λ h. h) }

  pub line_spells : {T X Y W : Type 0} {B : T → List ℕ → Unit {0} → Type 0} {t : T} {M : X → List ℕ → V × Unit {0} → Type 0} {x : X} {N : Y → List ℕ → W → Type 0} {y : Y} (f : V × Unit {0} → W) →
      Spells B t (λ rest _. rest ≡ 10 ∷ []) → Spells M x (λ rest v. IsPair A B s t rest v.0 v.1) → Spells N y (λ rest v. IsMapped M f x rest v) → Spells N y (IsMappedText (IsLine (A s)) f)
  line_spells f b m n = mapped_spells f (spells_as (sequence_spells self_spells b m) line_is) n

-- A state whose relation lacks the byte.
pub lacks_spelled : {S V : Type 0} (M : S → List ℕ → V → Type 0) (s : S) {R : List ℕ → V → Type 0} (b : ℕ) → Spells M s R → LacksByte R b → LacksByte (M s) b
lacks_spelled M s b e lacks front more v h = lacks front more v ((e.is (front ++ b ∷ more) v).0 h)

-- A line by a relation that holds alike.
pub line_as : {V : Type 0} {P Q : List ℕ → V → Type 0} {W : Type 0} (f : V × Unit {0} → W) → ((t : List ℕ) (v : V) → P t v ↔ Q t v) → (text : List ℕ) (w : W) → IsMappedText (IsLine P) f text w ↔ IsMappedText (IsLine Q) f text w
line_as f e text w = (
  λ h. (h.0, record { front = h.1.front; whole = h.1.whole; spells = (e h.1.front h.0.0).0 h.1.spells }, h.2),
  λ h. (h.0, record { front = h.1.front; whole = h.1.whole; spells = (e h.1.front h.0.0).1 h.1.spells }, h.2),
)
