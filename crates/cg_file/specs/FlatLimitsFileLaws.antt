-- What holds of the tokens over flat keyed files of limits.
use Rattle.std.proofs.Common.{ℕ, ◌↔◌, List, arith, false}
use Rattle.cg_text.specs.Limit.{IsLimit}
use Rattle.cg_join.specs.Keyed.{AreKeyedLines}
use Rattle.cg_join.specs.LackingLaws.{limit_lacking}
use Rattle.cg_join.specs.Line.{LacksByte}
use Rattle.cg_join.specs.Pairs.{IsPairText}
use Rattle.cg_join.specs.Spelling.{IsMappedText}
use Rattle.cg_join.specs.WordStartLaws.{SpellsWord}
use Rattle.cg_value.specs.Files.{KindText}
use Rattle.cg_value.specs.Kind.{any_u64}
use Rattle.cg_value.specs.ReadLine.{AreFlatLimits, IsFlatLimit}
use Rattle.cg_value.specs.declared.kind.ReadForm.TheVariants.{FlatLimits as FlatLimitsForm}
use Rattle.cg_value.specs.declared.value.FlatLimit.{FlatLimit}
use Rattle.cg_value.specs.declared.value.Value.{Value}
use Rattle.cg_value.specs.declared.value.Value.TheVariants.{FlatLimits}
use Rattle.cg_file.specs.KeyedFileLaws.{key_parts, keyed_is}
use Rattle.cg_file.specs.StartableLaws.{Startable, limit_startable}

-- How pairs are turned into a file's value.
abbrev pub flat_limits_value : List FlatLimit → Value
flat_limits_value ps = FlatLimits ps

pub any_limit_startable : Startable (λ text v. IsLimit 0 any_u64 v text)
any_limit_startable = limit_startable 0 any_u64 (omega arith)

pub limit_lacks_newline : LacksByte (λ text v. IsLimit 0 any_u64 v text) 10
limit_lacks_newline = (limit_lacking 10 0 any_u64 (omega arith)).is

-- The text of a line.
abbrev pub LineText : List ℕ → FlatLimit → Type 0
LineText text p = IsPairText (λ q. q.key) (λ q. q.limit) (SpellsWord false) (λ t v. IsLimit 0 any_u64 v t) 32 text p

pub flat_limit_is : (text : List ℕ) (p : FlatLimit) → LineText text p ↔ IsFlatLimit p text
flat_limit_is = key_parts (λ p. p.key) (λ p. p.limit) 32 (IsLimit 0 any_u64)

pub flat_limits_file_is : (text : List ℕ) (v : Value) → IsMappedText (AreKeyedLines (λ p. p.key) (λ t p. IsFlatLimit p t) 10) flat_limits_value text v ↔ KindText FlatLimitsForm v text
flat_limits_file_is = keyed_is FlatLimitsForm IsFlatLimit (λ p. p.key) flat_limits_value AreFlatLimits
    (λ xs lines. (λ h. (h.each, h.distinct), λ h. record { each = h.0; distinct = h.1 })) (λ v lines. (λ h. h, λ h. h))
