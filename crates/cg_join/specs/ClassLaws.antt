-- What holds of the words of classes.
use Rattle.std.proofs.Common.{ℕ, ◌↔◌, List, refl}
use Rattle.cg_text.specs.Class.{class_text, IsClass}
use Rattle.cg_text.specs.Keyword.{text_of}
use Rattle.cg_text.specs.KeywordLaws.{keyword_lacks}
use Rattle.cg_text.specs.Texts.{Lacks}
use Rattle.cg_text.specs.Token.{HasOneText}
use Rattle.cg_text.specs.declared.keyword.Keyword.TheVariants as word
use Rattle.cg_text.specs.declared.values.IoClass.{IoClass}
use Rattle.cg_text.specs.declared.values.IoClass.TheVariants.{NoChange, PromoteToRt, RestrictToBe, Idle, NoneToRt}
use Rattle.cg_join.specs.ClassState.{OneOfFive, IsClassWord, IsLowWord, IsNoWord, IsOtherWord, class_of}
use Rattle.cg_join.specs.DisjointLaws.{disjoint_swap, either_disjoint, fixed_disjoint}
use Rattle.cg_join.specs.LackingLaws.{each_lacking}
use Rattle.cg_join.specs.OneTextLaws.{either_one, fixed_one, mapped_text_one, one_as}
use Rattle.cg_join.specs.Spelling.{Disjoint, IsMappedText}
use Rattle.cg_join.specs.TextBytes.{IsFixed, Lacking}
use Rattle.cg_join.specs.declared.choice.Either.TheVariants.{Left, Right}

class_from : (text : List ℕ) (v : OneOfFive) → IsClassWord text v → IsClass (class_of v) text
class_from text (Left (Left u)) h = h
class_from text (Left (Right u)) h = h
class_from text (Right (Left u)) h = h
class_from text (Right (Right (Left u))) h = h
class_from text (Right (Right (Right u))) h = h

class_to : (text : List ℕ) (class : IoClass) → IsClass class text → IsMappedText IsClassWord class_of text class
class_to text NoChange h = (Left (Left tt), h, refl)
class_to text PromoteToRt h = (Right (Left tt), h, refl)
class_to text RestrictToBe h = (Right (Right (Left tt)), h, refl)
class_to text Idle h = (Right (Right (Right tt)), h, refl)
class_to text NoneToRt h = (Left (Right tt), h, refl)

-- The words, turned into classes.
pub class_is : (text : List ℕ) (class : IoClass) → IsMappedText IsClassWord class_of text class ↔ IsClass class text
class_is text class = (λ h. (let k = class_from text h.0 h.1 in rw h.2 at k), λ h. class_to text class h)

-- No two words are the same.
pub no_words_apart : Disjoint (IsFixed (text_of word.NoChange)) (IsFixed (text_of word.NoneToRt))
no_words_apart = fixed_disjoint (text_of word.NoChange) (text_of word.NoneToRt) refl

pub low_words_apart : Disjoint (IsFixed (text_of word.RestrictToBe)) (IsFixed (text_of word.Idle))
low_words_apart = fixed_disjoint (text_of word.RestrictToBe) (text_of word.Idle) refl

pub other_words_apart : Disjoint (IsFixed (text_of word.PromoteToRt)) IsLowWord
other_words_apart = either_disjoint (IsFixed (text_of word.RestrictToBe)) (IsFixed (text_of word.Idle)) (IsFixed (text_of word.PromoteToRt))
    (fixed_disjoint (text_of word.PromoteToRt) (text_of word.RestrictToBe) refl) (fixed_disjoint (text_of word.PromoteToRt) (text_of word.Idle) refl)

pub words_apart : Disjoint IsNoWord IsOtherWord
words_apart =
    let no = IsFixed (text_of word.NoChange) in
    let none = IsFixed (text_of word.NoneToRt) in
    let not_no : Disjoint IsOtherWord no = disjoint_swap no IsOtherWord (either_disjoint (IsFixed (text_of word.PromoteToRt)) IsLowWord no
    (fixed_disjoint (text_of word.NoChange) (text_of word.PromoteToRt) refl)
    (either_disjoint (IsFixed (text_of word.RestrictToBe)) (IsFixed (text_of word.Idle)) no
    (fixed_disjoint (text_of word.NoChange) (text_of word.RestrictToBe) refl) (fixed_disjoint (text_of word.NoChange) (text_of word.Idle) refl))) in
    let not_none : Disjoint IsOtherWord none = disjoint_swap none IsOtherWord (either_disjoint (IsFixed (text_of word.PromoteToRt)) IsLowWord none
    (fixed_disjoint (text_of word.NoneToRt) (text_of word.PromoteToRt) refl)
    (either_disjoint (IsFixed (text_of word.RestrictToBe)) (IsFixed (text_of word.Idle)) none
    (fixed_disjoint (text_of word.NoneToRt) (text_of word.RestrictToBe) refl) (fixed_disjoint (text_of word.NoneToRt) (text_of word.Idle) refl))) in
    disjoint_swap IsOtherWord IsNoWord (either_disjoint no none IsOtherWord not_no not_none)

-- So a text is the word of one class.
pub class_one : HasOneText (λ text class. IsClass class text)
class_one = one_as class_is (mapped_text_one class_of (either_one words_apart (either_one no_words_apart (fixed_one (text_of word.NoChange)) (fixed_one (text_of word.NoneToRt)))
    (either_one other_words_apart (fixed_one (text_of word.PromoteToRt)) (either_one low_words_apart (fixed_one (text_of word.RestrictToBe)) (fixed_one (text_of word.Idle))))))

class_lacks : (class : IoClass) → Lacks 10 (class_text class)
class_lacks NoChange = keyword_lacks word.NoChange
class_lacks PromoteToRt = keyword_lacks word.PromoteToRt
class_lacks RestrictToBe = keyword_lacks word.RestrictToBe
class_lacks Idle = keyword_lacks word.Idle
class_lacks NoneToRt = keyword_lacks word.NoneToRt

pub class_lacking : Lacking (λ text class. IsClass class text) 10
class_lacking = each_lacking (λ text class. IsClass class text) 10 (λ text class h. rw h (class_lacks class))
