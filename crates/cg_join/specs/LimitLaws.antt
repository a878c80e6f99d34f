-- What holds of limits.
use Rattle.std.proofs.Common.{◌≡◌, ℕ, ◌↔◌, Bool, List, refl, codes}
use Rattle.cg_text.specs.Decimal.{IsDecimal}
use Rattle.cg_text.specs.Limit.{IsLimit}
use Rattle.cg_text.specs.declared.values.Limit.{Limit}
use Rattle.cg_text.specs.declared.values.Limit.TheVariants.{Max, At}
use Rattle.cg_join.specs.declared.choice.Either.{Either}
use Rattle.cg_join.specs.declared.choice.Either.TheVariants.{Left, Right}
use Rattle.cg_join.specs.Composites.{IsLimitWhere}
use Rattle.cg_join.specs.Spelling.{IsAllowed, IsEither, IsMappedText}
use Rattle.cg_join.specs.LimitState.{limit_of}

limit_from : (lo hi : ℕ) (text : List ℕ) (x : Either ℕ (Unit {0})) → IsEither (λ t n. IsDecimal lo hi n t) (λ t _. t ≡ codes "max") text x → IsLimit lo hi (limit_of x) text
limit_from lo hi text (Left n) h = h
limit_from lo hi text (Right u) h = h

limit_to : (lo hi : ℕ) (text : List ℕ) (v : Limit) → IsLimit lo hi v text → IsMappedText (IsEither (λ t n. IsDecimal lo hi n t) (λ t (_ : Unit {0}). t ≡ codes "max")) limit_of text v
limit_to lo hi text Max h = (Right tt, h, refl)
limit_to lo hi text (At n) h = (Left n, h, refl)

-- The two alternatives of a limit, turned into its values.
pub limit_is : (lo hi : ℕ) (text : List ℕ) (v : Limit) → IsMappedText (IsEither (λ t n. IsDecimal lo hi n t) (λ t (_ : Unit {0}). t ≡ codes "max")) limit_of text v ↔ IsLimit lo hi v text
limit_is lo hi text v = (λ h. (let k = limit_from lo hi text h.0 h.1 in rw h.2 at k), λ h. limit_to lo hi text v h)

where_from : (max : Bool) (lo hi : ℕ) (text : List ℕ) (x : Either ℕ (Unit {0})) →
    IsEither (λ t n. IsDecimal lo hi n t) (IsAllowed max (λ t _. t ≡ codes "max")) text x → IsLimitWhere max lo hi text (limit_of x)
where_from max lo hi text (Left n) h = h
where_from max lo hi text (Right u) h = h

where_to : (max : Bool) (lo hi : ℕ) (text : List ℕ) (v : Limit) → IsLimitWhere max lo hi text v →
    IsMappedText (IsEither (λ t n. IsDecimal lo hi n t) (IsAllowed max (λ t (_ : Unit {0}). t ≡ codes "max"))) limit_of text v
where_to max lo hi text Max h = (Right tt, h, refl)
where_to max lo hi text (At n) h = (Left n, h, refl)

-- The same, of a limit that may be max only where it is said so.
pub limit_where_is : (max : Bool) (lo hi : ℕ) (text : List ℕ) (v : Limit) →
    IsMappedText (IsEither (λ t n. IsDecimal lo hi n t) (IsAllowed max (λ t (_ : Unit {0}). t ≡ codes "max"))) limit_of text v ↔ IsLimitWhere max lo hi text v
limit_where_is max lo hi text v = (λ h. (let k = where_from max lo hi text h.0 h.1 in rw h.2 at k), λ h. where_to max lo hi text v h)
