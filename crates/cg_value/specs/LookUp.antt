-- What is looked up in values.
use Rattle.std.specs.Prelude.{ℕ, Bool, false, nat_eq, ◌&&◌, List, [], ◌∷◌, Option, Some, None, if◌then◌else◌}
use Rattle.std.specs.Str.{bytes_eq}
use Rattle.cg_text.specs.declared.values.Amount.{Amount}
use Rattle.cg_text.specs.declared.values.Device.{Device}
use Rattle.cg_value.specs.Flat.{number_of}
use Rattle.cg_value.specs.declared.value.StatLine.{StatLine}
use Rattle.cg_value.specs.declared.value.StatPair.{StatPair}
use Rattle.cg_value.specs.declared.value.Value.{Value}
use Rattle.cg_value.specs.declared.value.Value.TheVariants as value
use Rattle.cg_value.specs.declared.value.WeightLine.{WeightLine}

-- Whether the two are one device.
abbrev pub is_device : Device → Device → Bool
is_device a b = nat_eq a.major b.major && nat_eq a.minor b.minor

-- Whether the line is of the device: one that is gone is no device.
abbrev pub is_of : Option Device → Device → Bool
is_of (Some a) b = is_device a b
is_of None b = false

-- The number of the key in a flat value.
abbrev pub number_in : Value → List ℕ → Option ℕ
number_in (value.Flat pairs) key = number_of key pairs
number_in _ key = None

-- The amount of the first pair that has the sub-key, if any.
abbrev pub pair_amount : List ℕ → List StatPair → Option Amount
pair_amount key [] = None
pair_amount key (p ∷ ps) = if bytes_eq p.key key then Some p.amount else pair_amount key ps

-- The first that is there.
abbrev pub first_of : {X : Type 0} → Option X → Option X → Option X
first_of None other = other
first_of (Some x) other = Some x

-- The amount of the sub-key in the first line of the device that has it, if any.
abbrev pub line_amount : Device → List ℕ → List StatLine → Option Amount
line_amount device key [] = None
line_amount device key (l ∷ ls) = if is_of l.device device then first_of (pair_amount key l.pairs) (line_amount device key ls) else line_amount device key ls

abbrev pub amount_in : Value → Device → List ℕ → Option Amount
amount_in (value.DeviceStats lines) device key = line_amount device key lines
amount_in _ device key = None

-- The weight of the first line of the device, else the default.
abbrev pub line_weight : Device → ℕ → List WeightLine → ℕ
line_weight device default [] = default
line_weight device default (l ∷ ls) = if is_of l.device device then l.weight else line_weight device default ls

abbrev pub weight_in : Value → Device → Option ℕ
weight_in (value.DeviceWeights default lines) device = Some (line_weight device default lines)
weight_in _ device = None
