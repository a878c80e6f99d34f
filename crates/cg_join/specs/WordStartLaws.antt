-- What holds of words as the texts of repetitions.
use Rattle.std.proofs.Common.{◌≡◌, ℕ, ◌<◌, ◌↔◌, IsTrue, Bool, List, [], ◌∷◌, ◌++◌, length, refl, sym, ◌∙◌, ap, arith}
use Rattle.cg_text.specs.Token.{AreBytes, HasOneText}
use Rattle.cg_text.specs.Word.{AreWordBytes, IsWordByte, IsWordText}
use Rattle.cg_text.specs.WordState.{IsWordFront, IsWordRest, is_taken}
use Rattle.cg_text.specs.WordLaws.{is_taken_is, text_word, total_length, word_above, word_longer, words_bytes}
use Rattle.cg_join.specs.Distinct.{LacksValue}
use Rattle.cg_join.specs.Line.{LacksByte}
use Rattle.cg_join.specs.Repeat.{LacksEmpty}

-- A word, which is its own text.
abbrev pub SpellsWord : Bool → List ℕ → List ℕ → Type 0
SpellsWord controller text word = (word ≡ text) × IsWordText controller text

pub some_word : (controller : Bool) → (text : List ℕ) × (word : List ℕ) × SpellsWord controller text word
some_word controller = let w = word_above controller 0 in (w.0, w.0, (refl, w.1))

pub one_word : (controller : Bool) → HasOneText (SpellsWord controller)
one_word controller text v w h k = h.0 ∙ sym k.0

pub word_text_bytes : (controller : Bool) (text word : List ℕ) → SpellsWord controller text word → AreBytes text
word_text_bytes controller text word h = words_bytes text (text_word controller text h.1).1

-- A word that is longer than all others is none of them.
long_lacks : (word : List ℕ) (words : List (List ℕ)) → total_length words < length word → LacksValue word words
long_lacks word [] h = tt
long_lacks word (w ∷ words) h = ((λ e. absurd (omega (arith, h, ap length e))), long_lacks word words (omega (arith, h)))

pub new_word_text : (controller : Bool) (words : List (List ℕ)) → (text : List ℕ) × (word : List ℕ) × SpellsWord controller text word × LacksValue word words
new_word_text controller words = let w = word_above controller (total_length words) in (w.0, w.0, (refl, w.1), long_lacks w.0 words w.2)

pub word_new : (controller : Bool) (taken front : List ℕ) → ((rest : List ℕ) × (word : List ℕ) × IsWordRest controller taken (front ++ rest) word) →
    (words : List (List ℕ)) → (rest : List ℕ) × (word : List ℕ) × IsWordRest controller taken (front ++ rest) word × LacksValue word words
word_new controller taken front h words = let k = word_longer controller taken front h (total_length words) in (k.0, k.1, k.2, long_lacks k.1 words k.3)

word_byte_inside : (front more : List ℕ) (b : ℕ) → AreWordBytes (front ++ b ∷ more) → IsWordByte b
word_byte_inside [] more b h = h.0
word_byte_inside (x ∷ front) more b h = word_byte_inside front more b h.1

-- A word has bytes of words alone.
pub word_only : (controller : Bool) (b : ℕ) → (IsWordByte b → ⊥) → LacksByte (SpellsWord controller) b
word_only controller b other front more word h = other (word_byte_inside front more b (text_word controller (front ++ b ∷ more) h.1).1)

-- A word isn't empty.
pub word_filled : (controller : Bool) → LacksEmpty (SpellsWord controller)
word_filled controller word h = absurd (omega (arith, (text_word controller [] h.1).0))

-- What was taken is a word exactly where the empty rest has it as its value.
pub taken_is : (controller : Bool) (taken : List ℕ) → IsWordFront controller taken → (word : List ℕ) → IsTrue (is_taken taken word) ↔ IsWordRest controller taken [] word
taken_is controller taken sound word = is_taken_is controller taken word sound
