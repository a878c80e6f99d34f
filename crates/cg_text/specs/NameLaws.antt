-- What holds of what is left of a name value.
use Rattle.std.proofs.Common.{◌≡◌, ℕ, ◌↔◌, Bool, true, false, Ok, Err, List, [], ◌∷◌, ◌++◌, length, IsTrue, nat_lt, refl, sym, ◌∙◌, append_assoc, arith}
use Rattle.std.proofs.Props.{props}
use Rattle.std.proofs.lemmas.List.{append_cancel_right}
use Rattle.std.specs.Coded.{Unit-prop}
use Rattle.std.specs.declared.result.Result.{Result}
use Rattle.cg_text.specs.Name.{IsNameValue}
use Rattle.cg_text.specs.NameState.{IsNameFront, IsLowerFirst, IsNameRest}
use Rattle.cg_text.specs.Token.{IfTaken, UnlessTaken}
use Rattle.cg_text.specs.WordLaws.{text_word, word_begins, word_completes, word_ends_is}
use Rattle.cg_text.specs.WordState.{IsWordFront, IsWordRest}

pub IsNameFront_prop : (taken : List ℕ) → IsProp (IsNameFront taken)
IsNameFront_prop [] = Unit-prop
IsNameFront_prop (c ∷ cs) = hlevel props

front_more : (taken run : List ℕ) → IsNameFront taken → (taken ≡ [] → IsNameFront run) → IsNameFront (taken ++ run)
front_more [] run front first = first refl
front_more (c ∷ cs) run front first = front

-- Where the rests of a word are those of another after a run, it took the bytes of the other and the run.
pub front_after : (controller later : Bool) (old new run : List ℕ) → IsWordFront later new → IsNameFront old → (old ≡ [] → IsNameFront run) →
    ((rest word : List ℕ) → IsWordRest later new rest word ↔ IsWordRest controller old (run ++ rest) word) → IsNameFront new
front_after controller later old new run sound front first follows =
    let c = word_completes later new sound in
    let whole : c.1 ≡ old ++ (run ++ c.0) = ((follows c.0 c.1).0 c.2).whole in
    let same : new ≡ old ++ run = append_cancel_right new (old ++ run) c.0 (sym c.2.whole ∙ whole ∙ sym (append_assoc old run c.0)) in
    rw same (front_more old run front first)

-- A word whose first byte is a to z is a name value.
pub name_of : (controller : Bool) (taken rest word : List ℕ) → IsNameFront taken → (taken ≡ [] → IsNameFront rest) → IsWordRest controller taken rest word → IsNameValue word
name_of controller [] [] word front first h = absurd (let w = text_word controller [] (rw h.whole at h.is_word) in omega (arith, w.0))
name_of controller [] (c ∷ cs) word front first h = rw h.whole (first refl, text_word controller (c ∷ cs) (rw h.whole at h.is_word))
name_of controller (c ∷ cs) rest word front first h = rw h.whole (front, text_word controller (c ∷ (cs ++ rest)) (rw h.whole at h.is_word))

first_lower : (taken : List ℕ) (byte : ℕ) (rest word : List ℕ) → word ≡ taken ++ byte ∷ rest → IsNameValue word → IsLowerFirst taken byte
first_lower [] byte rest word whole h = λ e. (let k = rw whole at h in k.0)
first_lower (c ∷ cs) byte rest word whole h = λ e. absurd (cc)

-- A byte begins a rest of a name where it begins one of a word, and is a to z where it is the first.
pub name_begins : (controller : Bool) (taken : List ℕ) (byte : ℕ) → IsNameFront taken →
    (IsLowerFirst taken byte × ((rest word : List ℕ) × IsWordRest controller taken (byte ∷ rest) word)) ↔ ((rest name : List ℕ) × IsNameRest controller taken (byte ∷ rest) name)
name_begins controller taken byte front = (
  λ h. (h.1.0, h.1.1, (h.1.2, name_of controller taken (byte ∷ h.1.0) h.1.1 front h.0 h.1.2)),
  λ h. (first_lower taken byte h.0 h.1 h.2.0.whole h.2.1, (h.0, h.1, h.2.0)),
)

pub name_completes : (controller : Bool) (taken : List ℕ) → IsWordFront controller taken → IsNameFront taken → (rest name : List ℕ) × IsNameRest controller taken rest name
name_completes controller taken sound front =
    let b = word_begins controller taken 97 sound ((omega arith, omega arith, λ e. absurd (omega (arith, e))), λ _ _. ((λ e. absurd (omega (arith, e))), λ e. absurd (omega (arith, e)))) in
    (97 ∷ b.0, b.1, (b.2, name_of controller taken (97 ∷ b.0) b.1 front (λ _. (omega arith, omega arith)) b.2))

-- Nothing need follow exactly where there is a byte.
pub name_ends : (controller : Bool) (taken : List ℕ) → IsWordFront controller taken → IsNameFront taken → IsTrue (nat_lt 0 (length taken)) ↔ ((name : List ℕ) × IsNameRest controller taken [] name)
name_ends controller taken sound front = (
  λ e. (let w = (word_ends_is controller taken sound).0 e in (w.0, (w.1, name_of controller taken [] w.0 front (λ _. tt) w.1))),
  λ h. (word_ends_is controller taken sound).1 (h.0, h.1.0),
)

-- Where bytes were taken, nothing is asked of a run.
pub some_taken : (taken run : List ℕ) → IsTrue (nat_lt 0 (length taken)) → taken ≡ [] → IsNameFront run
some_taken [] run h e = absurd (cc)
some_taken (c ∷ cs) run h e = absurd (cc)

module _ {E : Type 0} (controller later : Bool) (old new : List ℕ) (byte : ℕ) where
  -- A step of a word, taken or not, keeps the front of a name.
  pub front_stepped : (result : Result Bool E) → IsWordFront later new → IsNameFront old → IsLowerFirst old byte →
      IfTaken result ((rest word : List ℕ) → IsWordRest later new rest word ↔ IsWordRest controller old (byte ∷ rest) word) →
      UnlessTaken result ((rest word : List ℕ) → IsWordRest later new rest word ↔ IsWordRest controller old rest word) → IsNameFront new
  front_stepped (Ok true) sound front first taken same = front_after controller later old new (byte ∷ []) sound front first taken
  front_stepped (Ok false) sound front first taken same = front_after controller later old new [] sound front (λ e. tt) same
  front_stepped (Err e) sound front first taken same = front_after controller later old new [] sound front (λ e. tt) same

  -- What a step leaves of a word it leaves of a name.
  pub name_stepped : (result : Result Bool E) → IfTaken result ((rest word : List ℕ) → IsWordRest later new rest word ↔ IsWordRest controller old (byte ∷ rest) word) →
      IfTaken result ((rest name : List ℕ) → IsNameRest later new rest name ↔ IsNameRest controller old (byte ∷ rest) name)
  name_stepped (Ok true) taken = λ rest name. (λ h. ((taken rest name).0 h.0, h.1), λ h. ((taken rest name).1 h.0, h.1))
  name_stepped (Ok false) taken = tt
  name_stepped (Err e) taken = tt
