-- What holds of the lines of a device's limits.
use Rattle.std.proofs.Common.{ℕ, ◌↔◌, List, [], ◌∷◌, refl, codes, arith}
use Rattle.cg_text.specs.Device.{IsDevice}
use Rattle.cg_text.specs.LimitPairs.{AreLimits}
use Rattle.cg_text.specs.declared.pairs.LimitPairs.{LimitPairs}
use Rattle.cg_text.specs.declared.values.Device.{Device}
use Rattle.cg_join.specs.ApartLaws.{label_apart}
use Rattle.cg_join.specs.LackingLaws.{concat_lacking, device_lacking, fixed_lacking, limits_lacking}
use Rattle.cg_join.specs.Spelling.{Apart, IsConcat, IsMappedText}
use Rattle.cg_join.specs.TextBytes.{IsFixed, Lacking}
use Rattle.cg_value.specs.WriteLine.{IsLimitWrite}
use Rattle.cg_write.specs.Texts.{IsSpacedLimits}
use Rattle.cg_write.specs.Mapped.{both_of}
use Rattle.cg_write.specs.DeviceLaws.{parts_are}

pub limits_are : (text : List ℕ) (x : Device × LimitPairs) → IsMappedText IsSpacedLimits both_of text x ↔ IsLimitWrite x text
limits_are text x = parts_are IsDevice (codes " ") AreLimits text x

pub limits_apart : Apart (λ t d. IsDevice d t) (IsConcat (IsFixed (32 ∷ [])) (λ t l. AreLimits l t))
limits_apart = label_apart (device_lacking 32 (omega arith))

pub spaced_limits_lacking : Lacking IsSpacedLimits 10
spaced_limits_lacking = concat_lacking (device_lacking 10 (omega arith)) (concat_lacking (fixed_lacking 10 (32 ∷ []) refl) limits_lacking)
