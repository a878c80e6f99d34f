-- What holds of the tokens over flat keyed files.
use Rattle.std.proofs.Common.{◌≡◌, ℕ, ◌<◌, ◌+◌, ◌↔◌, Bool, true, false, ◌||◌, nat_eq, Option, Some, None, is_some, is_err, is_ok, Result, Ok, Err, cond, option_map, List, [], ◌∷◌, map, length, refl, sym, ◌∙◌, ap, arith, add-one}
use Rattle.std.proofs.lemmas.Bool.{cond-false, false_from_ne_true}
use Rattle.std.proofs.lemmas.Cmp.{nat_list_eq_equiv}
use Rattle.std.proofs.lemmas.Slice.Eq.{bytes_eq-Decides}
use Rattle.std.specs.Cmp.Lexicographic.{pointwise}
use Rattle.cg_text.specs.Decimal.{IsDecimal}
use Rattle.cg_text.specs.WordState.{is_taken}
use Rattle.cg_join.specs.Distinct.{LacksValue, any_value}
use Rattle.cg_join.specs.Keyed.{AreKeyedLines}
use Rattle.cg_join.specs.Pairs.{IsPairText}
use Rattle.cg_join.specs.Spelling.{IsMappedText}
use Rattle.cg_join.specs.TakenLaws.{taken_some as among_some}
use Rattle.cg_join.specs.WordStartLaws.{SpellsWord}
use Rattle.cg_value.specs.Files.{KindText}
use Rattle.cg_value.specs.Flat.{has_key, is_repeated, number_of, place_of}
use Rattle.cg_value.specs.FlatLaws.{key_at, no_number_apart}
use Rattle.cg_value.specs.Kind.{any_u64}
use Rattle.cg_value.specs.ReadLine.{AreFlatLines, IsFlatLine}
use Rattle.cg_value.specs.declared.flat.FlatPair.{FlatPair}
use Rattle.cg_value.specs.declared.flat.FlatRefused.{FlatRefused}
use Rattle.cg_value.specs.declared.kind.ReadForm.TheVariants.{Flat as FlatForm}
use Rattle.cg_value.specs.declared.value.Value.{Value}
use Rattle.cg_value.specs.declared.value.Value.TheVariants.{Flat}
use Rattle.cg_file.specs.KeyedFileLaws.{key_parts, keyed_is}

-- How pairs are turned into a file's value.
abbrev pub flat_value : List FlatPair → Value
flat_value ps = Flat ps

-- Keys that are looked for.

found_first : (first : Bool) (later : Option ℕ) (more : Bool) → is_some later ≡ more → is_some (cond first (Some 0) (option_map (λ n. n + 1) later)) ≡ (first || more)
found_first true later more e = refl
found_first false None more e = e
found_first false (Some k) more e = e

-- A key has a place where some pair has it.
pub found_is : (key : List ℕ) (ps : List FlatPair) → is_some (place_of key ps) ≡ any_value (λ k. pointwise nat_eq key k) (map (λ p. p.key) ps)
found_is key [] = refl
found_is key (p ∷ ps) =
    rw (nat_list_eq_equiv.symm key p.key) (found_first (has_key key p) (place_of key ps) (any_value (λ k. pointwise nat_eq key k) (map (λ q. q.key) ps)) (found_is key ps))

-- What was taken is a pair's key where it has a place.
pub taken_some : (taken : List ℕ) (ps : List FlatPair) → false ≡ nat_eq (length taken) 0 → is_some (place_of taken ps) ≡ any_value (is_taken taken) (map (λ p. p.key) ps)
taken_some taken ps h = found_is taken ps ∙ among_some taken (map (λ p. p.key) ps) h

-- A key that no pair has, has no number.
pub new_number : (key : List ℕ) (ps : List FlatPair) → LacksValue key (map (λ p. p.key) ps) → number_of key ps ≡ None
new_number key [] h = refl
new_number key (p ∷ ps) h =
    cond-false (has_key key p) (Some p.number) (number_of key ps) (false_from_ne_true (has_key key p) (λ e. h.0 (sym ((bytes_eq-Decides p.key key).0 e)))) ∙ new_number key ps h.1

-- A push of such a key is refused for memory alone.
pub new_refused : {T : Type 0} (r : Result T FlatRefused) (why : FlatRefused) (key : List ℕ) (ps : List FlatPair) →
    r ≡ Err why → LacksValue key (map (λ p. p.key) ps) → is_repeated r ≡ is_some (number_of key ps) →
    is_err r ≡ is_repeated r → ⊥
new_refused r why key ps e h repeated room =
    let same : true ≡ false = sym (ap is_err e) ∙ room ∙ repeated ∙ ap is_some (new_number key ps h) in
    absurd (cc)

-- The text of a line.
abbrev pub LineText : List ℕ → FlatPair → Type 0
LineText text p = IsPairText (λ q. q.key) (λ q. q.number) (SpellsWord false) (λ t n. IsDecimal 0 any_u64 n t) 32 text p

pub flat_line_is : (text : List ℕ) (p : FlatPair) → LineText text p ↔ IsFlatLine p text
flat_line_is = key_parts (λ p. p.key) (λ p. p.number) 32 (IsDecimal 0 any_u64)

pub flat_file_is : (text : List ℕ) (v : Value) → IsMappedText (AreKeyedLines (λ p. p.key) (λ t p. IsFlatLine p t) 10) flat_value text v ↔ KindText FlatForm v text
flat_file_is = keyed_is FlatForm IsFlatLine (λ p. p.key) flat_value AreFlatLines
    (λ xs lines. (λ h. (h.each, h.distinct), λ h. record { each = h.0; distinct = h.1 })) (λ v lines. (λ h. h, λ h. h))

lacks_all : (key : List ℕ) (ps : List FlatPair) → ((i : ℕ) → i < length ps → key_at ps i ≡ key → ⊥) → LacksValue key (map (λ p. p.key) ps)
lacks_all key [] f = tt
lacks_all key (p ∷ ps) f = ((λ e. f 0 (omega arith) (sym e)), lacks_all key ps (λ i h e. f (i + 1) (omega (arith, h)) (rw add-one e)))

none_of : (key : List ℕ) (ps : List FlatPair) → is_some (number_of key ps) ≡ false → number_of key ps ≡ None
none_of key ps = go (number_of key ps) where
  go : (n : Option ℕ) → is_some n ≡ false → n ≡ None
  go None e = refl
  go (Some x) e = absurd (cc)

-- A key that was added was new.
pub added_new : (r : Result (Unit {0}) FlatRefused) (key : List ℕ) (ps : List FlatPair) → is_ok r ≡ true → is_repeated r ≡ is_some (number_of key ps) → LacksValue key (map (λ p. p.key) ps)
added_new (Ok u) key ps e h = lacks_all key ps (λ i. no_number_apart key ps i (none_of key ps (sym h)))
added_new (Err x) key ps e h = absurd (cc)
