-- What holds of the default weight.
use Rattle.std.proofs.Common.{ℕ, ◌≤◌, ◌↔◌, inl, inr, List, [], ◌∷◌, ◌++◌, refl, arith}
use Rattle.cg_text.specs.Keyword.{text_of}
use Rattle.cg_text.specs.declared.keyword.Keyword.TheVariants as word
use Rattle.cg_join.specs.BeginsLaws.{decimal_begins, label_begins}
use Rattle.cg_join.specs.CutLaws.{label_is}
use Rattle.cg_join.specs.DisjointLaws.{begins_disjoint}
use Rattle.cg_join.specs.FilledLaws.{decimal_is_filled}
use Rattle.cg_join.specs.LackingLaws.{concat_lacking, digits_lacking, either_lacking}
use Rattle.cg_join.specs.Spelling.{Disjoint, IsConcat, IsMappedText}
use Rattle.cg_join.specs.TextBytes.{IsFixed, Lacking}
use Rattle.cg_join.specs.declared.choice.Either.{Either}
use Rattle.cg_join.specs.declared.choice.Either.TheVariants.{Left, Right}
use Rattle.cg_write.specs.Texts.{IsDefault, IsNamedWeight, IsPlainOrNamed, IsWeight}
use Rattle.cg_write.specs.Mapped.{default_weight}

word_to : (most : ℕ) (text : List ℕ) (v : Unit {0} × (Unit {0} × ℕ)) → IsNamedWeight most text v → IsDefault most text v.1.1
word_to most text v h =
    let a = (label_is (text_of word.Default) (IsConcat (IsFixed (32 ∷ [])) (IsWeight most)) text v).0 h in
    let b = (label_is (32 ∷ []) (IsWeight most) a.0 v.1).0 a.2 in
    inr (b.0, (rw b.1 at a.1), b.2)

default_from : (most : ℕ) (text : List ℕ) (v : Either ℕ (Unit {0} × (Unit {0} × ℕ))) → IsPlainOrNamed most text v → IsDefault most text (default_weight v)
default_from most text (Left n) h = inl h
default_from most text (Right v) h = word_to most text v h

default_to : (most : ℕ) (text : List ℕ) (n : ℕ) → IsDefault most text n → IsMappedText (IsPlainOrNamed most) default_weight text n
default_to most text n (inl h) = (Left n, h, refl)
default_to most text n (inr h) = (
  Right (tt, (tt, n)),
  (label_is (text_of word.Default) (IsConcat (IsFixed (32 ∷ [])) (IsWeight most)) text (tt, (tt, n))).1 (32 ∷ h.0, h.1, (label_is (32 ∷ []) (IsWeight most) (32 ∷ h.0) (tt, n)).1 (h.0, refl, h.2)),
  refl,
)

pub default_is : (most : ℕ) (text : List ℕ) (n : ℕ) → IsMappedText (IsPlainOrNamed most) default_weight text n ↔ IsDefault most text n
default_is most text n = (λ h. (let k = default_from most text h.0 h.1 in rw h.2 at k), λ h. default_to most text n h)

pub weight_no_word : (most : ℕ) → Disjoint (IsWeight most) (IsNamedWeight most)
weight_no_word most = begins_disjoint (decimal_is_filled 1 most) (decimal_begins 1 most) (label_begins 100 _) (λ c d e. omega (arith, d, e))

-- The default weight's lines lack a byte that no digit is, nor one of the word or a space.
pub default_lacking : (most b : ℕ) → (48 ≤ b → b ≤ 57 → ⊥) → Lacking (IsFixed (text_of word.Default)) b → Lacking (IsFixed (32 ∷ [])) b → Lacking (IsDefault most) b
default_lacking most b other name space =
    let digits = digits_lacking b 1 most other in
    let parts = either_lacking digits (concat_lacking name (concat_lacking space digits)) in
    record { is = λ front more n h. (let k = (default_is most (front ++ b ∷ more) n).1 h in parts.is front more k.0 k.1) }
