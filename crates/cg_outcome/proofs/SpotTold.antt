-- The line of a spot, written in parts.
use Rattle.std.specs.Prelude.{MatchResult, Result}
use Rattle.std.proofs.Common.{◌≡◌, ℕ, Bool, List, ◌++◌, Option, ap, subst, ◌∙◌, append_assoc}
use Rattle.cg_outcome.specs.Wrote.{FailsAfter, HasWrittenText}
use Rattle.cg_outcome.specs.declared.outcome.Outcome.{Outcome}

-- What the writing of more comes to.
abbrev pub Comes : (first now : Option (List ℕ)) (failed : Bool) (written : ℕ) → List ℕ → Result (Unit {0}) Outcome → Type 0
Comes first now failed written text r = MatchResult r (λ _. HasWrittenText first now text written) (FailsAfter first now failed text)

pub comes_as : (first now : Option (List ℕ)) (failed : Bool) (written : ℕ) (t u : List ℕ) (r : Result (Unit {0}) Outcome) → t ≡ u → Comes first now failed written t r → Comes first now failed written u r
comes_as first now failed written t u r e h = subst (λ (x : List ℕ). Comes first now failed written x r) e h

module _ (text a p m s t whole : List ℕ) (e : a ++ (p ++ (m ++ (s ++ t))) ≡ whole) where
  pub behind_one : (text ++ a) ++ (p ++ (m ++ (s ++ t))) ≡ text ++ whole
  behind_one = append_assoc text a (p ++ (m ++ (s ++ t))) ∙ ap (λ (x : List ℕ). text ++ x) e

  pub behind_two : ((text ++ a) ++ p) ++ (m ++ (s ++ t)) ≡ text ++ whole
  behind_two = append_assoc (text ++ a) p (m ++ (s ++ t)) ∙ behind_one

  pub behind_three : (((text ++ a) ++ p) ++ m) ++ (s ++ t) ≡ text ++ whole
  behind_three = append_assoc ((text ++ a) ++ p) m (s ++ t) ∙ behind_two

  pub behind_four : ((((text ++ a) ++ p) ++ m) ++ s) ++ t ≡ text ++ whole
  behind_four = append_assoc (((text ++ a) ++ p) ++ m) s t ∙ behind_three

pub parts_are : (a b p m n s t : List ℕ) → a ≡ b → m ≡ n → a ++ (p ++ (m ++ (s ++ t))) ≡ b ++ (p ++ (n ++ (s ++ t)))
parts_are a b p m n s t e f = ap (λ (x : List ℕ). x ++ (p ++ (m ++ (s ++ t)))) e ∙ ap (λ (x : List ℕ). b ++ (p ++ (x ++ (s ++ t)))) f
