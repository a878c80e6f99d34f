-- Trees of texts; and no tree has a number with a fraction, so that each has one text.
use Rattle.std.proofs.Common.{◌≡◌, ℕ, zero, suc, List, [], ◌∷◌, Bool, true, false, cond, ◌||◌, map, refl, sym, ap, rules, arith, true≢false}
use Rattle.std.proofs.lemmas.List.Folds.{fold-map}
use Rattle.std.proofs.lemmas.Simd.{map-map}
use Rattle.std.proofs.lemmas.Str.{IsUtf8-from_ascii, is_utf8-from_IsUtf8, IsUtf8-from_is_utf8}
use Rattle.std.specs.Str.{IsUtf8, IsAscii, is_utf8}
use Rattle.serde_json.specs.Data.{Data, no_members, put, string, array, object}
use Rattle.serde_json.specs.View.{items_of}
use Rattle.serde_json.specs.Written.{has_float}
use Rattle.cg_text.specs.Word.{IsWord, AreWordBytes}
use Rattle.cg_json.specs.Json.{array_of, keyed, number_data, text_data}

-- ---- What lies in places

pub array_mapped : {X Y : Type 0} (f : Y → Data) (h : X → Y) (xs : List X) → array_of f (map h xs) ≡ array_of (λ x. f (h x)) xs
array_mapped f h xs = ap (λ ds. array (items_of ds)) (map-map f h xs)

pub keyed_mapped : {X Y : Type 0} (key : Y → List ℕ) (f : Y → Data) (h : X → Y) (xs : List X) → keyed key f (map h xs) ≡ keyed (λ x. key (h x)) (λ x. f (h x)) xs
keyed_mapped key f h xs = ap object (fold-map (λ ms y. put (key y) (f y) ms) h no_members xs)

-- ---- Texts

ascii_word : (bs : List ℕ) → AreWordBytes bs → IsAscii bs
ascii_word [] h i = search rules
ascii_word (b ∷ bs) h zero = omega (arith, h.0.1)
ascii_word (b ∷ bs) h (suc i) = ascii_word bs h.1 i

-- A key's bytes are UTF-8.
pub utf8_of_word : (bs : List ℕ) → IsWord bs → IsUtf8 bs
utf8_of_word bs h = IsUtf8-from_ascii bs (ascii_word bs h.1)

chosen_first : {X : Type 0} (b : Bool) (x y : X) → b ≡ true → cond b x y ≡ x
chosen_first true x y e = refl
chosen_first false x y e = absurd (true≢false (sym e))

chosen_second : {X : Type 0} (b : Bool) (x y : X) → (b ≡ true → ⊥) → cond b x y ≡ y
chosen_second true x y n = absurd (n refl)
chosen_second false x y n = refl

-- The tree of bytes that are UTF-8, and of those that aren't.
pub text_is_string : (bs : List ℕ) → IsUtf8 bs → text_data bs ≡ string bs
text_is_string bs h = chosen_first (is_utf8 bs) (string bs) (array_of number_data bs) (is_utf8-from_IsUtf8 bs h)

pub text_is_array : (bs : List ℕ) → (IsUtf8 bs → ⊥) → text_data bs ≡ array_of number_data bs
text_is_array bs n = chosen_second (is_utf8 bs) (string bs) (array_of number_data bs) (λ e. n (IsUtf8-from_is_utf8 bs e))

-- ---- No fractions

abbrev IsPlain : Data → Type 0
IsPlain d = has_float d ≡ false

neither : (a b : Bool) → a ≡ false → b ≡ false → (a || b) ≡ false
neither true b e f = e
neither false b e f = f

pub array_plain : {X : Type 0} (f : X → Data) → ((x : X) → IsPlain (f x)) → (xs : List X) → IsPlain (array_of f xs)
array_plain f h [] = refl
array_plain f h (x ∷ xs) = neither _ _ (h x) (array_plain f h xs)

text_cases : (b : Bool) (bs : List ℕ) → IsPlain (cond b (string bs) (array_of number_data bs))
text_cases true bs = refl
text_cases false bs = array_plain number_data (λ n. refl) bs

pub text_plain : (bs : List ℕ) → IsPlain (text_data bs)
text_plain bs = text_cases (is_utf8 bs) bs
