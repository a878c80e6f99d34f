-- What holds of the lines of sizes to reclaim.
use Rattle.std.proofs.Common.{ℕ, ◌↔◌, Bool, List, ◌∷◌, ◌++◌, Option, Some, refl, arith, codes}
use Rattle.cg_text.specs.Keyword.{text_of}
use Rattle.cg_text.specs.Size.{IsSize}
use Rattle.cg_text.specs.Token.{HasOneText}
use Rattle.cg_text.specs.declared.keyword.Keyword.TheVariants as word
use Rattle.cg_text.specs.declared.values.Limit.{Limit}
use Rattle.cg_text.specs.declared.values.Limit.TheVariants.{Max, At}
use Rattle.cg_join.specs.ApartLaws.{fixed_apart, lacking_apart}
use Rattle.cg_join.specs.BeginsLaws.{label_begins, maybe_begins_by}
use Rattle.cg_join.specs.Composites.{IsNumberIn}
use Rattle.cg_join.specs.DisjointLaws.{allowed_disjoint}
use Rattle.cg_join.specs.LackingLaws.{concat_lacking, decimal_lacking, keyword_lacking, maybe_lacking, size_lacking}
use Rattle.cg_join.specs.LimitLaws.{limit_where_is}
use Rattle.cg_join.specs.LimitState.{limit_of}
use Rattle.cg_join.specs.MaxLaws.{max_not_decimal}
use Rattle.cg_join.specs.Maybe.{IsMaybe}
use Rattle.cg_join.specs.OneTextLaws.{concat_one, either_one, fixed_one, mapped_text_one, one_as}
use Rattle.cg_join.specs.Spelling.{Apart, Disjoint, IsAllowed, IsMappedText}
use Rattle.cg_join.specs.StartLaws.{one_decimal}
use Rattle.cg_join.specs.TextBytes.{IsFixed, Lacking}
use Rattle.cg_value.specs.Lines.{HasParts}
use Rattle.cg_value.specs.WriteLine.{IsReclaim, IsSwappiness}
use Rattle.cg_write.specs.FollowedLaws.{perhaps_is}
use Rattle.cg_write.specs.Mapped.{perhaps_both}
use Rattle.cg_write.specs.Texts.{IsASwappiness, IsLabelledSwappiness, IsWrittenReclaim}

-- ---- A swappiness

swappiness_is : (max : Bool) (v : Limit) (text : List ℕ) → IsASwappiness max text v ↔ IsSwappiness max v text
swappiness_is max Max text = (λ h. h, λ h. h)
swappiness_is max (At n) text = (λ h. h, λ h. h)

number_no_max : Disjoint (IsNumberIn 0 200) (IsFixed (text_of word.Max))
number_no_max text n u h k = max_not_decimal 0 200 n text k h

max_one : (max : Bool) → HasOneText (IsAllowed max (IsFixed (text_of word.Max)))
max_one max text u w h k = refl

swappiness_one : (max : Bool) → HasOneText (IsASwappiness max)
swappiness_one max = one_as (limit_where_is max 0 200) (mapped_text_one limit_of (either_one (allowed_disjoint max number_no_max) (one_decimal 0 200) (max_one max)))

pub labelled_one : (max : Bool) → HasOneText (IsLabelledSwappiness max)
labelled_one max = concat_one (fixed_apart (text_of word.Swappiness) (IsASwappiness max)) (fixed_one (text_of word.Swappiness)) (swappiness_one max)

swappiness_lacking : (max : Bool) → Lacking (IsASwappiness max) 10
swappiness_lacking max = record { is = λ front more v h. at_limit front more v h }
  where
    at_limit : (front more : List ℕ) (v : Limit) → IsASwappiness max (front ++ 10 ∷ more) v → ⊥
    at_limit front more Max h = (keyword_lacking word.Max).is front more tt h.1
    at_limit front more (At n) h = (decimal_lacking 10 0 200 (omega arith)).is front more n h

-- ---- Lines

both_are : (max : Bool) (v : ℕ) (w : Limit) (text : List ℕ) →
    HasParts IsSize (codes " swappiness=") (λ w t. IsASwappiness max t w) v w text ↔ IsReclaim max v (Some w) text
both_are max v w text = (
  λ h. record { front = h.front; back = h.back; text_is = h.text_is; front_is = h.front_is; back_is = (swappiness_is max w h.back).0 h.back_is },
  λ h. record { front = h.front; back = h.back; text_is = h.text_is; front_is = h.front_is; back_is = (swappiness_is max w h.back).1 h.back_is },
)

pub reclaim_is : (max : Bool) (text : List ℕ) (x : ℕ × Option Limit) → IsMappedText (IsWrittenReclaim max) perhaps_both text x ↔ IsReclaim max (x.0) (x.1) text
reclaim_is max text x = perhaps_is IsSize (codes " swappiness=") (λ w t. IsASwappiness max t w) (IsReclaim max) (λ v t. (λ h. h, λ h. h)) (both_are max) text x

pub reclaim_apart : (max : Bool) → Apart (λ t n. IsSize n t) (IsMaybe (IsLabelledSwappiness max))
reclaim_apart max = lacking_apart (size_lacking 32 (omega arith)) (maybe_begins_by (label_begins 32 _))

pub reclaim_lacking : (max : Bool) → Lacking (IsWrittenReclaim max) 10
reclaim_lacking max = concat_lacking (size_lacking 10 (omega arith)) (maybe_lacking (concat_lacking (keyword_lacking word.Swappiness) (swappiness_lacking max)))
