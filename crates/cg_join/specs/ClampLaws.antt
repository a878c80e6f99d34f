-- What holds of clamps.
use Rattle.std.proofs.Common.{◌≡◌, ℕ, ◌↔◌, List, refl, codes}
use Rattle.cg_text.specs.Hundredths.{IsHundredths}
use Rattle.cg_text.specs.Clamp.{IsClamp}
use Rattle.cg_text.specs.declared.hundredths.Spelling.{Spelling}
use Rattle.cg_text.specs.declared.values.Clamp.{Clamp}
use Rattle.cg_text.specs.declared.values.Clamp.TheVariants.{Max, At}
use Rattle.cg_text.specs.declared.values.Hundredths.{Hundredths}
use Rattle.cg_join.specs.declared.choice.Either.{Either}
use Rattle.cg_join.specs.declared.choice.Either.TheVariants.{Left, Right}
use Rattle.cg_join.specs.ClampState.{clamp_of}
use Rattle.cg_join.specs.Spelling.{IsEither, IsMappedText}

clamp_from : (form : Spelling) (text : List ℕ) (x : Either (Unit {0}) Hundredths) → IsEither (λ t _. t ≡ codes "max") (λ t h. IsHundredths form 10000 h t) text x → IsClamp form (clamp_of x) text
clamp_from form text (Left u) h = h
clamp_from form text (Right n) h = h

clamp_to : (form : Spelling) (text : List ℕ) (v : Clamp) → IsClamp form v text → IsMappedText (IsEither (λ t (_ : Unit {0}). t ≡ codes "max") (λ t h. IsHundredths form 10000 h t)) clamp_of text v
clamp_to form text Max h = (Left tt, h, refl)
clamp_to form text (At n) h = (Right n, h, refl)

-- The two alternatives of a clamp, turned into its values.
pub clamp_is : (form : Spelling) (text : List ℕ) (v : Clamp) → IsMappedText (IsEither (λ t (_ : Unit {0}). t ≡ codes "max") (λ t h. IsHundredths form 10000 h t)) clamp_of text v ↔ IsClamp form v text
clamp_is form text v = (λ h. (let k = clamp_from form text h.0 h.1 in rw h.2 at k), λ h. clamp_to form text v h)
