-- What holds of the weight of a device.
use Rattle.std.proofs.Common.{ℕ, ◌↔◌, List, ◌∷◌, ◌++◌, Option, Some, None, refl, arith}
use Rattle.cg_text.specs.Keyword.{text_of}
use Rattle.cg_text.specs.declared.keyword.Keyword.TheVariants as word
use Rattle.cg_join.specs.BeginsLaws.{decimal_begins, fixed_begins}
use Rattle.cg_join.specs.DisjointLaws.{digits_disjoint}
use Rattle.cg_join.specs.FilledLaws.{fixed_filled}
use Rattle.cg_join.specs.LackingLaws.{decimal_lacking, either_lacking, fixed_lacking}
use Rattle.cg_join.specs.Spelling.{Disjoint, IsMappedText}
use Rattle.cg_join.specs.TextBytes.{IsFixed, Lacking}
use Rattle.cg_join.specs.declared.choice.Either.{Either}
use Rattle.cg_join.specs.declared.choice.Either.TheVariants.{Left, Right}
use Rattle.cg_write.specs.Texts.{IsChosen, IsWeight, IsWordOrWeight}
use Rattle.cg_write.specs.Mapped.{chosen_weight}

chosen_from : (most : ℕ) (text : List ℕ) (v : Either (Unit {0}) ℕ) → IsWordOrWeight most text v → IsChosen most text (chosen_weight v)
chosen_from most text (Left u) h = h
chosen_from most text (Right n) h = h

chosen_to : (most : ℕ) (text : List ℕ) (w : Option ℕ) → IsChosen most text w → IsMappedText (IsWordOrWeight most) chosen_weight text w
chosen_to most text None h = (Left tt, h, refl)
chosen_to most text (Some n) h = (Right n, h, refl)

pub chosen_is : (most : ℕ) (text : List ℕ) (w : Option ℕ) → IsMappedText (IsWordOrWeight most) chosen_weight text w ↔ IsChosen most text w
chosen_is most text w = (λ h. (let k = chosen_from most text h.0 h.1 in rw h.2 at k), λ h. chosen_to most text w h)

pub word_no_weight : (most : ℕ) → Disjoint (IsFixed (text_of word.Default)) (IsWeight most)
word_no_weight most = digits_disjoint (fixed_filled 100 _) (fixed_begins 100 _) (decimal_begins 1 most) (λ h k. omega (arith, h, k))

pub chosen_lacking : (most : ℕ) → Lacking (IsChosen most) 10
chosen_lacking most =
    let parts = either_lacking (fixed_lacking 10 (text_of word.Default) refl) (decimal_lacking 10 1 most (omega arith)) in
    record { is = λ front more w h. (let k = (chosen_is most (front ++ 10 ∷ more) w).1 h in parts.is front more k.0 k.1) }
