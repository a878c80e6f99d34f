-- What the kernel profile reads of devices, also where they are gone or amounts are below 0, has all that is read without that.
use Rattle.std.proofs.Common.{ℕ, true, false, List, [], ◌∷◌, Option, Some, None}
use Rattle.std.specs.List.{AllZip}
use Rattle.cg_text.specs.Amount.{IsAmount}
use Rattle.cg_text.specs.Device.{IsDeviceName}
use Rattle.cg_text.specs.declared.values.Amount.{Amount}
use Rattle.cg_text.specs.declared.values.Amount.TheVariants.{Whole, Decimal, Max, Below}
use Rattle.cg_text.specs.declared.values.Device.{Device}
use Rattle.cg_value.specs.Files.{ReadLines}
use Rattle.cg_value.specs.Lines.{AreLed}
use Rattle.cg_value.specs.ReadLine.{IsLimitLine, IsStatLine, IsStatPair, IsTargetLine, IsWeightLine}
use Rattle.cg_value.specs.declared.kind.ReadForm.TheVariants as form
use Rattle.cg_value.specs.declared.value.LimitLine.{LimitLine}
use Rattle.cg_value.specs.declared.value.StatLine.{StatLine}
use Rattle.cg_value.specs.declared.value.StatPair.{StatPair}
use Rattle.cg_value.specs.declared.value.TargetLine.{TargetLine}
use Rattle.cg_value.specs.declared.value.Value.{Value}
use Rattle.cg_value.specs.declared.value.WeightLine.{WeightLine}

name_wider : (device : Option Device) (text : List ℕ) → IsDeviceName false device text → IsDeviceName true device text
name_wider (Some device) text h = h
name_wider None text h = absurd (let none = h.0 in cc)

amount_wider : (a : Amount) (text : List ℕ) → IsAmount false a text → IsAmount true a text
amount_wider (Whole n) text h = h
amount_wider (Decimal n) text h = h
amount_wider Max text h = h
amount_wider (Below n) text h = absurd (let none = h.0 in cc)

pair_wider : (p : StatPair) (text : List ℕ) → IsStatPair false p text → IsStatPair true p text
pair_wider p text h = record { front = h.front; back = h.back; text_is = h.text_is; front_is = h.front_is; back_is = amount_wider p.amount h.back h.back_is }

pairs_wider : (ps : List StatPair) (text : List ℕ) → AreLed (IsStatPair false) ps text → AreLed (IsStatPair true) ps text
pairs_wider [] text h = h
pairs_wider (p ∷ ps) text h = (h.0, h.1, h.2, pair_wider p h.0 h.3, pairs_wider ps h.1 h.4)

each_wider : {X : Type 0} {P Q : X → List ℕ → Type 0} → ((x : X) (line : List ℕ) → P x line → Q x line) → (xs : List X) (lines : List (List ℕ)) → AllZip P xs lines → AllZip Q xs lines
each_wider f [] [] h = tt
each_wider f [] (line ∷ lines) h = h
each_wider f (x ∷ xs) [] h = h
each_wider f (x ∷ xs) (line ∷ lines) h = (f x line h.0, each_wider f xs lines h.1)

stat_wider : (l : StatLine) (line : List ℕ) → IsStatLine false l line → IsStatLine true l line
stat_wider l line h = record {
  device = h.device;
  pairs = h.pairs;
  line_is = h.line_is;
  device_is = name_wider l.device h.device h.device_is;
  pairs_are = pairs_wider l.pairs h.pairs h.pairs_are;
  distinct = h.distinct;
}

limits_wider : (l : LimitLine) (line : List ℕ) → IsLimitLine false l line → IsLimitLine true l line
limits_wider l line h = record {
  device = h.device;
  rbps = h.rbps;
  wbps = h.wbps;
  riops = h.riops;
  wiops = h.wiops;
  line_is = h.line_is;
  device_is = name_wider l.device h.device h.device_is;
  rbps_is = h.rbps_is;
  wbps_is = h.wbps_is;
  riops_is = h.riops_is;
  wiops_is = h.wiops_is;
}

weight_wider : (most : ℕ) (l : WeightLine) (line : List ℕ) → IsWeightLine most false l line → IsWeightLine most true l line
weight_wider most l line h = record { front = h.front; back = h.back; text_is = h.text_is; front_is = name_wider l.device h.front h.front_is; back_is = h.back_is }

target_wider : (l : TargetLine) (line : List ℕ) → IsTargetLine false l line → IsTargetLine true l line
target_wider l line h = record { front = h.front; back = h.back; text_is = h.text_is; front_is = name_wider l.device h.front h.front_is; back_is = h.back_is }

pub stats_wider : (v : Value) (lines : List (List ℕ)) → ReadLines (form.DeviceStats false) v lines → ReadLines (form.DeviceStats true) v lines
stats_wider v lines h = record { xs = h.xs; value = h.value; spelled = each_wider stat_wider h.xs lines h.spelled }

pub all_limits_wider : (v : Value) (lines : List (List ℕ)) → ReadLines (form.DeviceLimits false) v lines → ReadLines (form.DeviceLimits true) v lines
all_limits_wider v lines h = record { xs = h.xs; value = h.value; spelled = each_wider limits_wider h.xs lines h.spelled }

pub weights_wider : (most : ℕ) (v : Value) (lines : List (List ℕ)) → ReadLines (form.DeviceWeights most false) v lines → ReadLines (form.DeviceWeights most true) v lines
weights_wider most v lines h = record {
  default = h.default;
  devices = h.devices;
  first = h.first;
  others = h.others;
  value = h.value;
  lines_are = h.lines_are;
  first_is = h.first_is;
  others_are = each_wider (weight_wider most) h.devices h.others h.others_are;
}

pub targets_wider : (v : Value) (lines : List (List ℕ)) → ReadLines (form.DeviceTargets false) v lines → ReadLines (form.DeviceTargets true) v lines
targets_wider v lines h = record { xs = h.xs; value = h.value; spelled = each_wider target_wider h.xs lines h.spelled }
