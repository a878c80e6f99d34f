-- What a flag's text gives.
use Rattle.std.proofs.Common.{◌≡◌, Option, Some, None, Bool, true, false, refl, sym, codes, Err}
use Rattle.std.proofs.lemmas.Bool.{false_from_ne_true}
use Rattle.std.proofs.lemmas.Slice.Eq.{bytes_eq-Decides}
use Rattle.std.specs.Bool.{MatchBool}
use Rattle.std.specs.Str.{bytes_eq}
use Rattle.std.specs.Str.Parse.{ParsesBool, true_text, false_text}
use Rattle.clap.specs.Words.{Text}
use Rattle.cg_program.specs.Words.{is_set}

pub set_some : (o : Option Text) (b : Bool) → (o ≡ None → Some b ≡ None) → ((t : Text) → o ≡ Some t → MatchBool b (t ≡ true_text) (t ≡ false_text)) → b ≡ is_set o
set_some None b none value = let bad : Some b ≡ None = none refl in cc
set_some (Some t) true none value = rw (value t refl) refl
set_some (Some t) false none value = rw (value t refl) refl

pub set_none : (E : Type 0) (o : Option Text) → ((t : Text) → o ≡ Some t → (e : E) × ParsesBool t (Err e)) → false ≡ is_set o
set_none E None value = refl
set_none E (Some t) value = sym (false_from_ne_true (bytes_eq t (codes "true")) (λ same. (value t refl).1.0 ((bytes_eq-Decides t (codes "true")).0 same)))
