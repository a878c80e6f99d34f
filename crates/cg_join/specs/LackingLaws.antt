-- Texts that lack a byte, by their parts.
use Rattle.std.proofs.Common.{◌≡◌, ◌≢◌, ℕ, ℤ, ◌≤◌, ◌⊎◌, inl, inr, Bool, true, not, List, [], ◌∷◌, ◌++◌, Option, Some, None, sym, nat_eq}
use Rattle.std.specs.List.{list_all}
use Rattle.cg_text.specs.AboveSpace.{AreAboveSpace}
use Rattle.cg_text.specs.AboveSpaceLaws.{above_lacks_byte, numeral_above, limit_above, hundredths_above, clamp_above, amount_above, device_above, device_name_above, param_above, signed_above, size_above, strict_above, loose_above, word_text_above}
use Rattle.cg_text.specs.Amount.{IsAmount}
use Rattle.cg_text.specs.Clamp.{IsClamp}
use Rattle.cg_text.specs.Decimal.{IsDecimal}
use Rattle.cg_text.specs.Device.{IsDevice, IsDeviceName}
use Rattle.cg_text.specs.Hundredths.{IsHundredths}
use Rattle.cg_text.specs.Keyword.{text_of}
use Rattle.cg_text.specs.KeywordLaws.{tested_lacks, keyword_lacks}
use Rattle.cg_text.specs.Limit.{IsLimit}
use Rattle.cg_text.specs.LimitPairs.{AreLimits}
use Rattle.cg_text.specs.List.{IsStrictList, IsLooseList}
use Rattle.cg_text.specs.NewlineLaws.{raw_lacks, reason_lacks, times_lack, limits_lack}
use Rattle.cg_text.specs.Param.{IsParam}
use Rattle.cg_text.specs.Raw.{IsRawLine, IsReason}
use Rattle.cg_text.specs.Signed.{IsSigned}
use Rattle.cg_text.specs.Size.{IsSize}
use Rattle.cg_text.specs.Texts.{Lacks}
use Rattle.cg_text.specs.TextsLaws.{lacks_inside}
use Rattle.cg_text.specs.Trigger.{AreTimes}
use Rattle.cg_text.specs.declared.hundredths.Spelling.{Spelling}
use Rattle.cg_text.specs.declared.keyword.Keyword.{Keyword}
use Rattle.cg_join.specs.Distinct.{AreDistinctJoined}
use Rattle.cg_join.specs.Maybe.{IsMaybe}
use Rattle.cg_join.specs.Ready.{IsOrReady}
use Rattle.cg_join.specs.Repeat.{IsList, AreJoined}
use Rattle.cg_join.specs.Spelling.{IsConcat, IsEither, IsMappedText}
use Rattle.cg_join.specs.StartLaws.{decimal_only}
use Rattle.cg_join.specs.TextBytes.{IsFixed, Lacking}
use Rattle.cg_join.specs.WordStartLaws.{SpellsWord}
use Rattle.cg_join.specs.declared.choice.Either.{Either}
use Rattle.cg_join.specs.declared.choice.Either.TheVariants.{Left, Right}

-- A byte of joined texts is in the first or in the second.
inside_both : (b : ℕ) (xs ys front more : List ℕ) → front ++ b ∷ more ≡ xs ++ ys → ((m : List ℕ) × (xs ≡ front ++ b ∷ m)) ⊎ ((f : List ℕ) × (ys ≡ f ++ b ∷ more))
inside_both b [] ys front more e = inr (front, sym e)
inside_both b (x ∷ xs) ys [] more e = inl (xs, (let s : b ≡ x = cc in cc))
inside_both b (x ∷ xs) ys (c ∷ front) more e =
    let s : c ≡ x = cc in
    let t : front ++ b ∷ more ≡ xs ++ ys = cc in
    elim (inside_both b xs ys front more t) [
      | inl h ↦ inl (h.0, (let k : xs ≡ front ++ b ∷ h.0 = h.1 in cc))
      | inr h ↦ inr (h.0, h.1)
    ]

not_inside : (b : ℕ) (front more : List ℕ) → front ++ b ∷ more ≡ [] → ⊥
not_inside b [] more e = cc
not_inside b (c ∷ front) more e = cc

-- The same with a byte between that is another.
inside_parts : (b delimiter : ℕ) → delimiter ≢ b → (xs ys front more : List ℕ) → front ++ b ∷ more ≡ xs ++ delimiter ∷ ys → ((m : List ℕ) × (xs ≡ front ++ b ∷ m)) ⊎ ((f : List ℕ) × (ys ≡ f ++ b ∷ more))
inside_parts b delimiter n xs ys front more e =
    elim (inside_both b xs (delimiter ∷ ys) front more e) [
      | inl h ↦ inl h
      | inr h ↦ inr (after b delimiter n ys more h.0 h.1)
    ]
  where
    after : (b delimiter : ℕ) → delimiter ≢ b → (ys more f : List ℕ) → delimiter ∷ ys ≡ f ++ b ∷ more → (f : List ℕ) × (ys ≡ f ++ b ∷ more)
    after b delimiter n ys more [] e = absurd (n (cc))
    after b delimiter n ys more (c ∷ f) e = (f, cc)

-- Where each text lacks it.
pub each_lacking : {V : Type 0} (R : List ℕ → V → Type 0) (b : ℕ) → ((text : List ℕ) (v : V) → R text v → Lacks b text) → Lacking R b
each_lacking R b f = record { is = λ front more v h. lacks_inside b front more (f (front ++ b ∷ more) v h) }

-- Where each byte is above the space.
pub above_lacking : {V : Type 0} (R : List ℕ → V → Type 0) (b : ℕ) → b ≤ 32 → ((text : List ℕ) (v : V) → R text v → AreAboveSpace text) → Lacking R b
above_lacking R b low f = each_lacking R b (λ text v h. above_lacks_byte b text low (f text v h))

pub fixed_lacking : (b : ℕ) (fixed : List ℕ) → list_all (λ c. not (nat_eq c b)) fixed ≡ true → Lacking (IsFixed fixed) b
fixed_lacking b fixed e = each_lacking (IsFixed fixed) b (λ text v h. rw h (tested_lacks b fixed e))

-- No fixed text of the grammar has a newline.
pub keyword_lacking : (keyword : Keyword) → Lacking (IsFixed (text_of keyword)) 10
keyword_lacking keyword = each_lacking (IsFixed (text_of keyword)) 10 (λ text v h. rw h (keyword_lacks keyword))

pub decimal_lacking : (b lo hi : ℕ) → b ≤ 32 → Lacking (λ text n. IsDecimal lo hi n text) b
decimal_lacking b lo hi low = above_lacking (λ text n. IsDecimal lo hi n text) b low (λ text n h. numeral_above n text h.2)

-- Digits alone.
pub digits_lacking : (b lo hi : ℕ) → (48 ≤ b → b ≤ 57 → ⊥) → Lacking (λ text n. IsDecimal lo hi n text) b
digits_lacking b lo hi other = record { is = decimal_only lo hi b other }

pub signed_lacking : (b : ℕ) (lo hi : ℤ) → b ≤ 32 → Lacking (λ text z. IsSigned lo hi z text) b
signed_lacking b lo hi low = above_lacking (λ text z. IsSigned lo hi z text) b low (λ text z h. signed_above lo hi z text h)

pub limit_lacking : (b lo hi : ℕ) → b ≤ 32 → Lacking (λ text v. IsLimit lo hi v text) b
limit_lacking b lo hi low = above_lacking (λ text v. IsLimit lo hi v text) b low (λ text v h. limit_above lo hi v text h)

pub hundredths_lacking : (b : ℕ) (form : Spelling) (most : ℕ) → b ≤ 32 → Lacking (λ text v. IsHundredths form most v text) b
hundredths_lacking b form most low = above_lacking (λ text v. IsHundredths form most v text) b low (λ text v h. hundredths_above form most v text h)

pub clamp_lacking : (b : ℕ) (form : Spelling) → b ≤ 32 → Lacking (λ text v. IsClamp form v text) b
clamp_lacking b form low = above_lacking (λ text v. IsClamp form v text) b low (λ text v h. clamp_above form v text h)

pub amount_lacking : (b : ℕ) (signed : Bool) → b ≤ 32 → Lacking (λ text v. IsAmount signed v text) b
amount_lacking b signed low = above_lacking (λ text v. IsAmount signed v text) b low (λ text v h. amount_above signed v text h)

pub size_lacking : (b : ℕ) → b ≤ 32 → Lacking (λ text n. IsSize n text) b
size_lacking b low = above_lacking (λ text n. IsSize n text) b low (λ text n h. size_above n text h)

pub device_lacking : (b : ℕ) → b ≤ 32 → Lacking (λ text v. IsDevice v text) b
device_lacking b low = above_lacking (λ text v. IsDevice v text) b low (λ text v h. device_above v text h)

pub device_name_lacking : (b : ℕ) (unknown : Bool) → b ≤ 32 → Lacking (λ text v. IsDeviceName unknown v text) b
device_name_lacking b unknown low = above_lacking (λ text v. IsDeviceName unknown v text) b low (λ text v h. device_name_above unknown v text h)

pub param_lacking : (b : ℕ) → b ≤ 32 → Lacking (λ text v. IsParam v text) b
param_lacking b low = above_lacking (λ text v. IsParam v text) b low (λ text v h. param_above v text h)

pub word_lacking : (b : ℕ) (controller : Bool) → b ≤ 32 → Lacking (SpellsWord controller) b
word_lacking b controller low = above_lacking (SpellsWord controller) b low (λ text word h. word_text_above controller text h.1)

pub strict_lacking : (b most : ℕ) → b ≤ 32 → Lacking (λ text set. IsStrictList most set text) b
strict_lacking b most low = above_lacking (λ text set. IsStrictList most set text) b low (λ text set h. strict_above most set text h)

pub loose_lacking : (b most : ℕ) → b ≤ 32 → Lacking (λ text set. IsLooseList most set text) b
loose_lacking b most low = above_lacking (λ text set. IsLooseList most set text) b low (λ text set h. loose_above most set text h)

pub times_lacking : Lacking (λ text times. AreTimes times text) 10
times_lacking = each_lacking (λ text times. AreTimes times text) 10 (λ text times h. times_lack times text h)

pub limits_lacking : Lacking (λ text v. AreLimits v text) 10
limits_lacking = each_lacking (λ text v. AreLimits v text) 10 (λ text v h. limits_lack v text h)

pub raw_lacking : Lacking (λ text line. (line ≡ text) × IsRawLine text) 10
raw_lacking = each_lacking (λ text line. (line ≡ text) × IsRawLine text) 10 (λ text line h. raw_lacks text h.1)

pub reason_lacking : Lacking (λ text reason. IsReason reason text) 10
reason_lacking = each_lacking (λ text reason. IsReason reason text) 10 (λ text reason h. reason_lacks reason text h)

module _ {V W : Type 0} {R : List ℕ → V → Type 0} {Q : List ℕ → W → Type 0} {b : ℕ} where
  pub concat_lacking : Lacking R b → Lacking Q b → Lacking (IsConcat R Q) b
  concat_lacking f g = record {
    is = λ front more v h.
        elim (inside_both b h.front h.back front more h.whole) [
          | inl k ↦ f.is front k.0 v.0 (rw k.1 at h.begins)
          | inr k ↦ g.is k.0 more v.1 (rw k.1 at h.ends)
        ];
  }

  pub either_lacking : Lacking R b → Lacking Q b → Lacking (IsEither R Q) b
  either_lacking f g = record { is = λ front more v h. at_either front more v h }
    where
      at_either : (front more : List ℕ) (v : Either V W) → IsEither R Q (front ++ b ∷ more) v → ⊥
      at_either front more (Left v) h = f.is front more v h
      at_either front more (Right w) h = g.is front more w h

module _ {V : Type 0} {R : List ℕ → V → Type 0} {b : ℕ} where
  pub mapped_text_lacking : {W : Type 0} {f : V → W} → Lacking R b → Lacking (IsMappedText R f) b
  mapped_text_lacking k = record { is = λ front more w h. k.is front more h.0 h.1 }

  pub maybe_lacking : Lacking R b → Lacking (IsMaybe R) b
  maybe_lacking f = record { is = λ front more v h. at_maybe front more v h }
    where
      at_maybe : (front more : List ℕ) (v : Option V) → IsMaybe R (front ++ b ∷ more) v → ⊥
      at_maybe front more None h = not_inside b front more h
      at_maybe front more (Some v) h = f.is front more v h

  pub or_ready_lacking : {value : V} → Lacking R b → Lacking (IsOrReady R value) b
  or_ready_lacking f = record { is = λ front more v. elim [ inl h ↦ f.is front more v h | inr h ↦ not_inside b front more h.0 ] }

  list_lacks : (separator : ℕ) → separator ≢ b → Lacking R b → (front more : List ℕ) (vs : List V) → IsList R R separator (front ++ b ∷ more) vs → ⊥
  list_lacks separator n f front more [] h = h
  list_lacks separator n f front more (v ∷ []) h = f.is front more v h
  list_lacks separator n f front more (v ∷ w ∷ vs) h =
      elim (inside_parts b separator n h.0 h.1 front more h.2) [
        | inl k ↦ f.is front k.0 v (rw k.1 at h.3)
        | inr k ↦ list_lacks separator n f k.0 more (w ∷ vs) (rw k.1 at h.4)
      ]

  pub joined_lacking : (separator : ℕ) → separator ≢ b → Lacking R b → Lacking (AreJoined R separator) b
  joined_lacking separator n f = record { is = list_lacks separator n f }

  pub distinct_lacking : (separator : ℕ) → separator ≢ b → Lacking R b → Lacking (AreDistinctJoined R separator) b
  distinct_lacking separator n f = record { is = λ front more vs h. list_lacks separator n f front more vs h.0 }
