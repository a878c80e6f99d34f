-- The bytes with which texts begin, by their parts.
use Rattle.std.proofs.Common.{◌≡◌, ℕ, ◌≤◌, inl, inr, List, [], ◌∷◌, ◌++◌, Option, Some, None, refl, arith, ◌≢◌, sym, ◌∙◌}
use Rattle.cg_text.specs.Decimal.{IsDecimal, IsNumeral}
use Rattle.cg_text.specs.DecimalLaws.{number_digits}
use Rattle.cg_text.specs.Hundredths.{IsHundredths}
use Rattle.cg_text.specs.Name.{IsLower, IsNameValue}
use Rattle.cg_text.specs.Size.{HasSize, IsSize}
use Rattle.cg_text.specs.declared.decimal.Progress.TheVariants.{Start}
use Rattle.cg_text.specs.declared.hundredths.Spelling.TheVariants.{Read}
use Rattle.cg_join.specs.FilledLaws.{fixed_filled, first_filled}
use Rattle.cg_join.specs.Maybe.{IsMaybe}
use Rattle.cg_join.specs.Pairs.{AreLed, ArePairs}
use Rattle.cg_join.specs.Repeat.{AreJoined}
use Rattle.cg_join.specs.Distinct.{AreDistinctJoined}
use Rattle.cg_join.specs.Spelling.{IsConcat, IsEither, IsMappedText}
use Rattle.cg_join.specs.StartLaws.{digit_inside}
use Rattle.cg_join.specs.TextBytes.{IsFixed, HasOnly, BeginsBy, Filled}
use Rattle.cg_join.specs.declared.choice.Either.{Either}
use Rattle.cg_join.specs.declared.choice.Either.TheVariants.{Left, Right}

-- A number's text has digits alone.
pub digits_only : (lo hi : ℕ) → HasOnly (λ c. (48 ≤ c) × (c ≤ 57)) (λ text n. IsDecimal lo hi n text)
digits_only lo hi = record { is = λ front more byte n h. digit_inside front more byte (number_digits lo hi Start (front ++ byte ∷ more) n h) }

pub only_begins : {V : Type 0} {F : ℕ → Type 0} {R : List ℕ → V → Type 0} → HasOnly F R → BeginsBy F R
only_begins f = record { is = λ byte back v h. f.is [] back byte v h }

-- Each of these bytes is one of those.
pub begins_as : {V : Type 0} {F G : ℕ → Type 0} {R : List ℕ → V → Type 0} → ((c : ℕ) → F c → G c) → BeginsBy F R → BeginsBy G R
begins_as e f = record { is = λ byte back v h. e byte (f.is byte back v h) }

pub fixed_begins : (b : ℕ) (more : List ℕ) → BeginsBy (λ c. c ≡ b) (IsFixed (b ∷ more))
fixed_begins b more = record { is = λ byte back v h. cc }

-- With a byte other than this.
pub fixed_begins_other : (b c : ℕ) (more : List ℕ) → c ≢ b → BeginsBy (λ x. x ≢ b) (IsFixed (c ∷ more))
fixed_begins_other b c more n = begins_as (λ x e f. n (sym e ∙ f)) (fixed_begins c more)

begun_cut : {F : ℕ → Type 0} (byte : ℕ) (back xs ys : List ℕ) → byte ∷ back ≡ xs ++ ys → ((c : ℕ) (cs : List ℕ) → xs ≡ c ∷ cs → F c) → (xs ≡ [] → F byte) → F byte
begun_cut byte back [] ys e f g = g refl
begun_cut byte back (x ∷ xs) ys e f g = let s : x ≡ byte = cc in rw (← s) (f x xs refl)

numeral_begins : (n byte : ℕ) (back : List ℕ) → IsNumeral n (byte ∷ back) → (48 ≤ byte) × (byte ≤ 57)
numeral_begins n byte back (inl h) = (omega (arith, h.0), omega (arith, h.0))
numeral_begins n byte back (inr h) = (omega (arith, h.0), h.1)

cut_begins : (n byte : ℕ) (back xs ys : List ℕ) → byte ∷ back ≡ xs ++ ys → IsNumeral n xs → (48 ≤ byte) × (byte ≤ 57)
cut_begins n byte back [] ys e h = absurd h
cut_begins n byte back (x ∷ xs) ys e h = let s : x ≡ byte = cc in rw s at (numeral_begins n x xs h)

-- A number, a device and a size begin with a digit.
pub decimal_begins : (lo hi : ℕ) → BeginsBy (λ c. (48 ≤ c) × (c ≤ 57)) (λ text n. IsDecimal lo hi n text)
decimal_begins lo hi = only_begins (digits_only lo hi)

pub hundredths_begins : (most : ℕ) → BeginsBy (λ c. (48 ≤ c) × (c ≤ 57)) (λ text v. IsHundredths Read most v text)
hundredths_begins most = record {
  is = λ byte back v h. cut_begins h.1.whole byte back h.1.digits (46 ∷ h.1.tenth ∷ h.1.hundredth ∷ []) h.1.text_is h.1.whole_is;
}

-- A name value begins with a letter.
pub name_begins : BeginsBy IsLower (λ text name. (name ≡ text) × IsNameValue text)
name_begins = record { is = λ byte back name h. h.1.0 }

pub size_begins : BeginsBy (λ c. (48 ≤ c) × (c ≤ 57)) (λ text n. IsSize n text)
size_begins = record { is = λ byte back n h. at_size h.count h.factor byte back h.spelled }
  where
    at_size : (m factor byte : ℕ) (back : List ℕ) → HasSize m factor (byte ∷ back) → (48 ≤ byte) × (byte ≤ 57)
    at_size m factor byte back (inl h) = numeral_begins m byte back h.0
    at_size m factor byte back (inr h) = cut_begins m byte back h.0 (h.1 ∷ []) h.2 h.3

module _ {V W : Type 0} {F : ℕ → Type 0} {R : List ℕ → V → Type 0} {Q : List ℕ → W → Type 0} where
  -- Where the first part isn't empty.
  pub concat_begins : Filled R → BeginsBy F R → BeginsBy F (IsConcat R Q)
  concat_begins some f = record {
    is = λ byte back v h. begun_cut byte back h.front h.back h.whole
        (λ c cs e. f.is c cs v.0 (rw e at h.begins))
        (λ e. absurd (some.is v.0 (rw e at h.begins)));
  }

  -- Where it may be.
  pub both_begin : BeginsBy F R → BeginsBy F Q → BeginsBy F (IsConcat R Q)
  both_begin f g = record {
    is = λ byte back v h. begun_cut byte back h.front h.back h.whole
        (λ c cs e. f.is c cs v.0 (rw e at h.begins))
        (λ e. g.is byte back v.1 (let k = rw e at h.whole in rw k h.ends));
  }

  pub either_begins : BeginsBy F R → BeginsBy F Q → BeginsBy F (IsEither R Q)
  either_begins f g = record { is = at_either }
    where
      at_either : (byte : ℕ) (back : List ℕ) (v : Either V W) → IsEither R Q (byte ∷ back) v → F byte
      at_either byte back (Left v) h = f.is byte back v h
      at_either byte back (Right w) h = g.is byte back w h

-- A text before which a fixed one stands.
pub label_begins : {W : Type 0} {Q : List ℕ → W → Type 0} (b : ℕ) (more : List ℕ) → BeginsBy (λ c. c ≡ b) (IsConcat (IsFixed (b ∷ more)) Q)
label_begins b more = record { is = λ byte back v h. (let e = rw h.begins at h.whole in cc) }

-- The same before others.
pub lead_begins : {V W : Type 0} {Q : List ℕ → V → Type 0} {R : List ℕ → W → Type 0} (b : ℕ) (more : List ℕ) → BeginsBy (λ c. c ≡ b) (IsConcat (IsConcat (IsFixed (b ∷ more)) Q) R)
lead_begins b more = concat_begins (first_filled (fixed_filled b more)) (label_begins b more)

module _ {V : Type 0} {F : ℕ → Type 0} {R : List ℕ → V → Type 0} where
  pub mapped_text_begins : {W : Type 0} {f : V → W} → BeginsBy F R → BeginsBy F (IsMappedText R f)
  mapped_text_begins k = record { is = λ byte back w h. k.is byte back h.0 h.1 }

  pub maybe_begins_by : BeginsBy F R → BeginsBy F (IsMaybe R)
  maybe_begins_by f = record { is = at_maybe }
    where
      at_maybe : (byte : ℕ) (back : List ℕ) (v : Option V) → IsMaybe R (byte ∷ back) v → F byte
      at_maybe byte back None h = absurd (let e : byte ∷ back ≡ [] = h in cc)
      at_maybe byte back (Some v) h = f.is byte back v h

  joined_at : (separator : ℕ) → Filled R → BeginsBy F R → (byte : ℕ) (back : List ℕ) (vs : List V) → AreJoined R separator (byte ∷ back) vs → F byte
  joined_at separator some f byte back [] h = absurd h
  joined_at separator some f byte back (v ∷ []) h = f.is byte back v h
  joined_at separator some f byte back (v ∷ w ∷ vs) h = begun_cut byte back h.0 (separator ∷ h.1) h.2
      (λ c cs e. f.is c cs v (rw e at h.3))
      (λ e. absurd (some.is v (rw e at h.3)))

  pub joined_begins : (separator : ℕ) → Filled R → BeginsBy F R → BeginsBy F (AreJoined R separator)
  joined_begins separator some f = record { is = joined_at separator some f }

  pub distinct_begins : (separator : ℕ) → Filled R → BeginsBy F R → BeginsBy F (AreDistinctJoined R separator)
  distinct_begins separator some f = record { is = λ byte back vs h. joined_at separator some f byte back vs h.0 }

-- Pairs with a separator before each begin with it.
pub pairs_begin : {V X : Type 0} (word : X → V) (R : List ℕ → X → Type 0) (separator : ℕ) → BeginsBy (λ c. c ≡ separator) (ArePairs word R separator)
pairs_begin {X = X} word R separator = record { is = λ byte back ps h. at_pairs byte back ps h.0 }
  where
    at_pairs : (byte : ℕ) (back : List ℕ) (ps : List X) → AreLed R separator (byte ∷ back) ps → byte ≡ separator
    at_pairs byte back [] h = absurd (cc)
    at_pairs byte back (p ∷ ps) h = let e = h.1 in cc
