-- The texts of one line that may have spaces have no newline.
use Rattle.std.proofs.Common.{ℕ, List, [], ◌∷◌, refl, arith}
use Rattle.cg_text.specs.AboveSpaceLaws.{above_lacks_byte, numeral_above, limit_above}
use Rattle.cg_text.specs.LimitPairs.{key_text, IsLimitPair, AreLimitPairs, AreLimits}
use Rattle.cg_text.specs.Raw.{IsRawLine, IsReason}
use Rattle.cg_text.specs.Texts.{Lacks}
use Rattle.cg_text.specs.TextsLaws.{lacks_both}
use Rattle.cg_text.specs.Trigger.{AreTimes}
use Rattle.cg_text.specs.declared.pairs.LimitKey.{LimitKey}
use Rattle.cg_text.specs.declared.pairs.LimitKey.TheVariants.{Rbps, Wbps, Riops, Wiops}
use Rattle.cg_text.specs.declared.pairs.LimitPairs.{LimitPairs}
use Rattle.cg_text.specs.declared.trigger.Times.{Times}
use Rattle.cg_text.specs.declared.values.Limit.{Limit}
use Rattle.cg_text.specs.KeywordLaws.{tested_lacks}

pub raw_lacks : (text : List ℕ) → IsRawLine text → Lacks 10 text
raw_lacks [] h = tt
raw_lacks (c ∷ cs) h = (h.2, raw_lacks cs h.3)

pub reason_lacks : (reason text : List ℕ) → IsReason reason text → Lacks 10 text
reason_lacks reason text h = rw h.0 (lacks_both 10 reason (41 ∷ []) (raw_lacks reason h.1) (tested_lacks 10 (41 ∷ []) refl))

pub times_lack : (times : Times) (text : List ℕ) → AreTimes times text → Lacks 10 text
times_lack times text h =
    rw h.text_is (lacks_both 10 h.stall (32 ∷ h.window) (above_lacks_byte 10 h.stall (omega arith) (numeral_above times.stall h.stall h.stall_is.2))
    ((λ e. omega (arith, e)), above_lacks_byte 10 h.window (omega arith) (numeral_above times.window h.window h.window_is.2)))

key_lacks : (key : LimitKey) → Lacks 10 (key_text key)
key_lacks Rbps = tested_lacks 10 (key_text Rbps) refl
key_lacks Wbps = tested_lacks 10 (key_text Wbps) refl
key_lacks Riops = tested_lacks 10 (key_text Riops) refl
key_lacks Wiops = tested_lacks 10 (key_text Wiops) refl

pair_lacks : (p : LimitKey × Limit) (text : List ℕ) → IsLimitPair p text → Lacks 10 text
pair_lacks p text h = rw h.1 (lacks_both 10 (key_text (p.0)) (61 ∷ h.0) (key_lacks (p.0)) ((λ e. omega (arith, e)), above_lacks_byte 10 h.0 (omega arith) (limit_above 1 18446744073709551615 (p.1) h.0 h.2)))

pairs_lack : (ps : List (LimitKey × Limit)) (text : List ℕ) → AreLimitPairs ps text → Lacks 10 text
pairs_lack [] text h = absurd h
pairs_lack (p ∷ []) text h = pair_lacks p text h
pairs_lack (p ∷ q ∷ ps) text h = rw h.2 (lacks_both 10 h.0 (32 ∷ h.1) (pair_lacks p h.0 h.3) ((λ e. omega (arith, e)), pairs_lack (q ∷ ps) h.1 h.4))

pub limits_lack : (v : LimitPairs) (text : List ℕ) → AreLimits v text → Lacks 10 text
limits_lack v text h = pairs_lack h.pairs text h.spelled
