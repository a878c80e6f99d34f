-- The value that is found of a text.
use Rattle.std.specs.Prelude.{ℕ, List, Option, Some, None, IfSome}
use Rattle.cg_text.specs.Token.{Spells}

-- What a token finds is what the text spells.
pub spelled_value : {S V : Type 0} (means : S → List ℕ → V → Type 0) (s : S) (R : List ℕ → V → Type 0) (text : List ℕ) (found : Option V) →
    Spells means s R → IfSome found (λ v. means s text v) → IfSome found (λ v. R text v)
spelled_value means s R text None spells h = h
spelled_value means s R text (Some v) spells h = (spells.is text v).0 h
