-- What holds of the lines of a device's target latency.
use Rattle.std.proofs.Common.{ℕ, ◌↔◌, List, codes}
use Rattle.cg_text.specs.Decimal.{IsDecimal}
use Rattle.cg_text.specs.Device.{IsDevice}
use Rattle.cg_text.specs.declared.values.Device.{Device}
use Rattle.cg_join.specs.Composites.{IsDeviceTarget}
use Rattle.cg_join.specs.Spelling.{IsMappedText}
use Rattle.cg_value.specs.Kind.{any_u64}
use Rattle.cg_value.specs.WriteLine.{IsTargetWrite}
use Rattle.cg_write.specs.Mapped.{both_of}
use Rattle.cg_write.specs.DeviceLaws.{parts_are}

pub target_is : (text : List ℕ) (x : Device × ℕ) → IsMappedText IsDeviceTarget both_of text x ↔ IsTargetWrite x text
target_is text x = parts_are IsDevice (codes " target=") (IsDecimal 0 any_u64) text x
