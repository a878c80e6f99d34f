use Rattle.std.proofs.Common.{ℕ, ◌↔◌, None, List, false, arith}
use Rattle.cg_text.specs.Limit.{IsLimit}
use Rattle.cg_text.specs.declared.values.Limit.{Limit}
use Rattle.cg_join.specs.Keyed.{IsKeyed}
use Rattle.cg_join.specs.KeyedLaws.{flat_is, given_spells, keyed_spells}
use Rattle.cg_join.specs.Spelling.{mapped_spells, spells_as}
use Rattle.cg_join.specs.WordStartLaws.{SpellsWord, word_only}
use Rattle.cg_value.specs.ReadLine.{IsFlatLimit}
use Rattle.cg_value.specs.declared.value.FlatLimit.{FlatLimit}
use Rattle.cg_file.specs.FlatLimitsFileLaws.{LineText, flat_limit_is, flat_limits_file_is, flat_limits_value, limit_lacks_newline}
use Rattle.cg_file.proofs.flat_limits.FlatLimitsFile.new.Goals as goal

pub new-requires-clause-keys_delimiter : goal.new-requires-clause-keys_delimiter
new-requires-clause-keys_delimiter c = word_only c.new-keys.result.controller 32 (λ h. absurd (omega (arith, h.0)))

pub new-requires-clause-keys_end : goal.new-requires-clause-keys_end
new-requires-clause-keys_end c = word_only c.new-keys.result.controller 10 (λ h. absurd (omega (arith, h.0)))

pub new-requires-clause-values_end : goal.new-requires-clause-values_end
new-requires-clause-values_end c = limit_lacks_newline

pub returns-clause-spells : goal.returns-clause-spells
returns-clause-spells c =
    let key : FlatLimit → List ℕ = λ p. p.key in
    let limit : FlatLimit → Limit = λ p. p.limit in
    let given : List FlatLimit → List FlatLimit = λ ps. ps in
    let line : (text : List ℕ) (p : FlatLimit) → IsKeyed key limit (SpellsWord c.new-keys.result.controller) (λ t v. IsLimit 0 18446744073709551615 v t) None 32 text p ↔ LineText text p =
    rw (c.new-keys.ensures) (flat_is key limit (SpellsWord false) (λ t v. IsLimit 0 18446744073709551615 v t) 32) in
    let each : (text : List ℕ) (p : FlatLimit) → IsKeyed key limit (SpellsWord c.new-keys.result.controller) (λ t v. IsLimit 0 18446744073709551615 v t) None 32 text p ↔ IsFlatLimit p text =
    λ text p. (λ h. (flat_limit_is text p).0 ((line text p).0 h), λ h. (line text p).1 ((flat_limit_is text p).1 h)) in
    let whole = spells_as (mapped_spells flat_limits_value (given_spells (keyed_spells key given 10 each c.new.ensures.spells)) c.new-2.ensures.spells) flat_limits_file_is in
    record { is = whole.is }
