-- What holds of parameters.
use Rattle.std.proofs.Common.{◌≡◌, ℕ, ◌≤◌, ◌↔◌, List, length, refl, arith}
use Rattle.cg_text.specs.Name.{IsNameValue}
use Rattle.cg_text.specs.Param.{IsParam}
use Rattle.cg_text.specs.declared.values.Hundredths.{Hundredths}
use Rattle.cg_text.specs.declared.values.ParamValue.{ParamValue}
use Rattle.cg_text.specs.declared.values.ParamValue.TheVariants.{Whole, Decimal, Name}
use Rattle.cg_join.specs.AmountLaws.{IsWhole, IsFraction}
use Rattle.cg_join.specs.BeginsLaws.{decimal_begins, either_begins, hundredths_begins, name_begins}
use Rattle.cg_join.specs.Choice.{either_size}
use Rattle.cg_join.specs.DisjointLaws.{begins_disjoint}
use Rattle.cg_join.specs.FilledLaws.{name_is_filled}
use Rattle.cg_join.specs.ParamState.{param_of, param_size}
use Rattle.cg_join.specs.Spelling.{IsEither, IsMappedText, Disjoint}
use Rattle.cg_join.specs.declared.choice.Either.{Either}
use Rattle.cg_join.specs.declared.choice.Either.TheVariants.{Left, Right}

abbrev pub IsName : List ℕ → List ℕ → Type 0
IsName text name = (name ≡ text) × IsNameValue text

abbrev pub IsAnyParam : List ℕ → Either (List ℕ) (Either ℕ Hundredths) → Type 0
IsAnyParam text v = IsEither IsName (IsEither IsWhole IsFraction) text v

-- A name begins with a letter.
pub name_not_number : Disjoint IsName (IsEither IsWhole IsFraction)
name_not_number = begins_disjoint name_is_filled name_begins (either_begins (decimal_begins 0 18446744073709551615) (hundredths_begins 99999999999)) (λ c e f. omega (arith, e.0, f.1))

param_from : (text : List ℕ) (x : Either (List ℕ) (Either ℕ Hundredths)) → IsAnyParam text x → IsParam (param_of x) text
param_from text (Left name) h = h
param_from text (Right (Left n)) h = h
param_from text (Right (Right n)) h = h

param_to : (text : List ℕ) (v : ParamValue) → IsParam v text → IsMappedText IsAnyParam param_of text v
param_to text (Whole n) h = (Right (Left n), h, refl)
param_to text (Decimal n) h = (Right (Right n), h, refl)
param_to text (Name name) h = (Left name, h, refl)

-- The three alternatives of a parameter, turned into its values.
pub param_is : (text : List ℕ) (v : ParamValue) → IsMappedText IsAnyParam param_of text v ↔ IsParam v text
param_is text v = (λ h. (let k = param_from text h.0 h.1 in rw h.2 at k), λ h. param_to text v h)

pub param_no_more : (v : Either (List ℕ) (Either ℕ Hundredths)) → param_size (param_of v) ≤ either_size length (either_size (λ _. 0) (λ _. 0)) v
param_no_more (Left name) = omega arith
param_no_more (Right (Left n)) = omega arith
param_no_more (Right (Right h)) = omega arith
