-- The kinds of files, and their words.
use Rattle.std.specs.Prelude.{◌≡◌, ℕ, ◌≤◌, ◌⊎◌, pos, negsuc, List, codes}
use Rattle.cg_value.specs.declared.kind.ReadForm.{ReadForm}
use Rattle.cg_value.specs.declared.kind.ReadForm.TheVariants as read
use Rattle.cg_value.specs.declared.kind.WriteForm.{WriteForm}
use Rattle.cg_value.specs.declared.kind.WriteForm.TheVariants as write

-- Numbers are of 64 bits where nothing else is said.
abbrev pub any_u64 : ℕ
any_u64 = 18446744073709551615

-- The bounds leave some number, and are of 64 bits.
abbrev pub AreBounds : ℕ → ℕ → Type 0
AreBounds lo hi = (lo ≤ hi) × (hi ≤ any_u64)

-- The greatest list number of one of the profiles.
abbrev pub IsListEnd : ℕ → Type 0
IsListEnd most = (most ≡ 65535) ⊎ (most ≡ 1048575)

-- The form is one of the file table.
abbrev pub IsReadForm : ReadForm → Type 0
IsReadForm (read.Number lo hi) = AreBounds lo hi
IsReadForm (read.Signed lo hi) = (lo ≡ negsuc 19) × (hi ≡ pos 19)
IsReadForm (read.Numbers lo hi) = AreBounds lo hi
IsReadForm (read.DeviceWeights most kernel) = AreBounds 1 most
IsReadForm (read.Set most) = IsListEnd most
IsReadForm _ = Unit {0}

abbrev pub IsWriteForm : WriteForm → Type 0
IsWriteForm (write.Number lo hi) = AreBounds lo hi
IsWriteForm (write.Signed lo hi) = (lo ≡ negsuc 19) × (hi ≡ pos 19)
IsWriteForm (write.Limit lo hi) = AreBounds lo hi
IsWriteForm (write.DeviceWeight most) = AreBounds 1 most
IsWriteForm (write.Set most) = IsListEnd most
IsWriteForm _ = Unit {0}

-- The word of a kind, which leaves out its bounds.
abbrev pub read_word : ReadForm → List ℕ
read_word (read.Number lo hi) = codes "number"
read_word (read.Signed lo hi) = codes "signed"
read_word read.Limit = codes "limit"
read_word read.Mode = codes "mode"
read_word read.Class = codes "class"
read_word read.CpuMax = codes "cpu_max"
read_word read.Clamp = codes "clamp"
read_word (read.Numbers lo hi) = codes "numbers"
read_word read.Words = codes "words"
read_word read.Flat = codes "flat"
read_word read.FlatLimits = codes "flat_limits"
read_word (read.DeviceStats kernel) = codes "device_stats"
read_word (read.DeviceLimits kernel) = codes "device_limits"
read_word (read.DeviceWeights most kernel) = codes "device_weights"
read_word (read.DeviceTargets kernel) = codes "device_targets"
read_word read.DeviceParams = codes "device_params"
read_word (read.Set most) = codes "set"
read_word read.Partition = codes "partition"
read_word read.Pressure = codes "pressure"
read_word read.Nested = codes "nested"
read_word read.NodeStats = codes "node_stats"
read_word read.Raw = codes "raw"

abbrev pub write_word : WriteForm → List ℕ
write_word (write.Number lo hi) = codes "number"
write_word (write.Signed lo hi) = codes "signed"
write_word (write.Limit lo hi) = codes "limit"
write_word write.SizeLimit = codes "size_limit"
write_word write.Clamp = codes "clamp"
write_word write.Mode = codes "mode"
write_word write.Class = codes "class"
write_word write.Controllers = codes "controllers"
write_word write.CpuMax = codes "cpu_max"
write_word (write.Reclaim max) = codes "reclaim"
write_word write.DeviceLimits = codes "device_limits"
write_word (write.DeviceWeight most) = codes "device_weight"
write_word write.DeviceTarget = codes "device_target"
write_word (write.Set most) = codes "set"
write_word write.Role = codes "role"
write_word write.Trigger = codes "trigger"
write_word write.Raw = codes "raw"
