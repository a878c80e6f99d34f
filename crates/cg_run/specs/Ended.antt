-- What is written once the input of one text has ended.
use Rattle.std.specs.Prelude.{◌≡◌, ℕ, Bool, List, [], ◌∷◌, ◌++◌, length, Option}
use Rattle.cg_text.specs.Texts.{TextOf}
use Rattle.cg_snap.specs.declared.stop.Stop.TheVariants as stop
use Rattle.cg_outcome.specs.Explain.{ExplainsNext, Tells}
use Rattle.cg_outcome.specs.Input.{Reading}
use Rattle.cg_outcome.specs.Outcome.{last_line}
use Rattle.cg_outcome.specs.Wrote.{Wrote, joined}
use Rattle.cg_outcome.specs.declared.outcome.Outcome.{Outcome}
use Rattle.cg_outcome.specs.declared.outcome.Outcome.TheVariants as out

module _ {V : Type 0} (Text : List ℕ → V → Type 0) (print : V → List ℕ) where
  -- The outcome that is right at the end of these bytes.
  abbrev pub IsEndRight : List ℕ → Outcome → List (List ℕ) → Type 0
  IsEndRight bytes out.Done parts = (v : V) × Text bytes v × (parts ≡ print v ∷ [])
  IsEndRight bytes (out.Stopped (stop.Cut at)) parts = (TextOf Text bytes → ⊥) × (at ≡ length bytes) × (parts ≡ [])
  IsEndRight bytes out.OutOfMemory parts = (v : V) × Text bytes v × (parts ≡ [])
  IsEndRight bytes o parts = ⊥

  -- IsIn says where the next byte stands behind what is begun of a line.
  pub record HasEnded (explain : Bool) (IsIn : List ℕ → Bool → List ℕ → ℕ → Type 0) (bytes : List ℕ) (taken now : Option (List ℕ)) (failed : Bool) (o : Outcome) : Type 0 where
    pub wanted : Outcome
    pub parts : List (List ℕ)
    pub right : IsEndRight bytes wanted parts
    pub more : List ℕ
    pub tells : (r : Reading) → r.bytes ≡ bytes → Tells (ExplainsNext (TextOf Text) IsIn) explain r wanted more
    pub wrote : Wrote taken now failed (joined parts ++ (last_line wanted ++ more)) wanted o
