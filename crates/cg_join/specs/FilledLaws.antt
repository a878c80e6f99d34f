-- Texts that aren't empty, by their parts.
use Rattle.std.proofs.Common.{◌≡◌, ℕ, Bool, List, [], ◌∷◌, ◌++◌, refl}
use Rattle.cg_text.specs.Decimal.{IsDecimal}
use Rattle.cg_text.specs.Name.{IsNameValue}
use Rattle.cg_text.specs.Token.{Spells}
use Rattle.cg_join.specs.Distinct.{AreDistinctJoined}
use Rattle.cg_join.specs.Repeat.{LacksEmpty, AreJoined}
use Rattle.cg_join.specs.Spelling.{IsConcat, IsEither}
use Rattle.cg_join.specs.TextBytes.{IsFixed, Filled}
use Rattle.cg_join.specs.WordStartLaws.{SpellsWord, word_filled}
use Rattle.cg_join.specs.declared.choice.Either.{Either}
use Rattle.cg_join.specs.declared.choice.Either.TheVariants.{Left, Right}

-- Both parts of an empty text are empty.
first_empty : (xs ys : List ℕ) → [] ≡ xs ++ ys → xs ≡ []
first_empty [] ys e = refl
first_empty (x ∷ xs) ys e = cc

second_empty : (xs ys : List ℕ) → [] ≡ xs ++ ys → ys ≡ []
second_empty [] ys e = cc
second_empty (x ∷ xs) ys e = absurd (cc)

no_middle : (b : ℕ) (xs ys : List ℕ) → [] ≡ xs ++ b ∷ ys → ⊥
no_middle b [] ys e = cc
no_middle b (x ∷ xs) ys e = cc

pub fixed_filled : (b : ℕ) (more : List ℕ) → Filled (IsFixed (b ∷ more))
fixed_filled b more = record { is = λ v h. absurd (cc) }

pub decimal_is_filled : (lo hi : ℕ) → Filled (λ text n. IsDecimal lo hi n text)
decimal_is_filled lo hi = record { is = λ n h. h.2 }

pub name_is_filled : Filled (λ text name. (name ≡ text) × IsNameValue text)
name_is_filled = record { is = λ name h. h.1 }

pub word_is_filled : (controller : Bool) → Filled (SpellsWord controller)
word_is_filled controller = record { is = word_filled controller }

module _ {V W : Type 0} {R : List ℕ → V → Type 0} {Q : List ℕ → W → Type 0} where
  pub first_filled : Filled R → Filled (IsConcat R Q)
  first_filled f = record { is = λ v h. f.is v.0 (let e = first_empty h.front h.back h.whole in rw e at h.begins) }

  pub second_filled : Filled Q → Filled (IsConcat R Q)
  second_filled f = record { is = λ v h. f.is v.1 (let e = second_empty h.front h.back h.whole in rw e at h.ends) }

  pub either_filled : Filled R → Filled Q → Filled (IsEither R Q)
  either_filled f g = record { is = at_either }
    where
      at_either : (v : Either V W) → IsEither R Q [] v → ⊥
      at_either (Left v) h = f.is v h
      at_either (Right w) h = g.is w h

module _ {V : Type 0} {R : List ℕ → V → Type 0} where
  joined_at : (separator : ℕ) → Filled R → (vs : List V) → AreJoined R separator [] vs → ⊥
  joined_at separator f [] h = h
  joined_at separator f (v ∷ []) h = f.is v h
  joined_at separator f (v ∷ w ∷ vs) h = no_middle separator h.0 h.1 h.2

  pub joined_filled : (separator : ℕ) → Filled R → Filled (AreJoined R separator)
  joined_filled separator f = record { is = joined_at separator f }

  pub distinct_filled : (separator : ℕ) → Filled R → Filled (AreDistinctJoined R separator)
  distinct_filled separator f = record { is = λ vs h. joined_at separator f vs h.0 }

-- A state whose texts aren't empty.
pub filled_spelled : {S V : Type 0} {M : S → List ℕ → V → Type 0} {s : S} {R : List ℕ → V → Type 0} → Spells M s R → Filled R → LacksEmpty (M s)
filled_spelled e f v h = f.is v ((e.is [] v).0 h)
