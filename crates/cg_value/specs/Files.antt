-- What a file is: lines that spell its value, each with its newline (cgroup-v2.rst, "Interface Files").
use Rattle.std.specs.Prelude.{◌≡◌, ℕ, Bool, List, Option, Some}
use Rattle.cg_text.specs.Class.{IsClass}
use Rattle.cg_text.specs.Clamp.{IsClamp}
use Rattle.cg_text.specs.Decimal.{IsDecimal}
use Rattle.cg_text.specs.Limit.{IsLimit}
use Rattle.cg_text.specs.List.{IsStrictList}
use Rattle.cg_text.specs.Signed.{IsSigned}
use Rattle.cg_text.specs.Texts.{TextOf}
use Rattle.cg_text.specs.declared.hundredths.Spelling.TheVariants.{Read}
use Rattle.cg_text.specs.declared.values.Limit.{Limit}
use Rattle.cg_value.specs.Kind.{any_u64}
use Rattle.cg_value.specs.Lines.{unlines, IsOneLine, AreLinesOf}
use Rattle.cg_value.specs.ReadLine.{IsMode, IsCpuMax, AreWords, AreFlatLines, IsStatLine, IsLimitLine, AreWeightLines, IsTargetLine, IsPartition, ArePressureLines, AreNestedLines, IsNodeStats, IsRaw, AreFlatLimits, IsParamLine}
use Rattle.cg_value.specs.Table.{read_form_of}
use Rattle.cg_value.specs.declared.kind.ReadForm.{ReadForm}
use Rattle.cg_value.specs.declared.kind.ReadForm.TheVariants as form
use Rattle.cg_value.specs.declared.profile.Profile.{Profile}
use Rattle.cg_value.specs.declared.value.Averages.{Averages}
use Rattle.cg_value.specs.declared.value.NestedPair.{NestedPair}
use Rattle.cg_value.specs.declared.value.Role.{Role}
use Rattle.cg_value.specs.declared.value.Value.{Value}
use Rattle.cg_value.specs.declared.value.Value.TheVariants as value

-- The value is made of x, to which the relation gives these lines.
pub record IsMadeOf {X : Type 0} (P : X → List (List ℕ) → Type 0) (make : X → Value) (v : Value) (lines : List (List ℕ)) : Type 0 where
  pub x : X
  pub value : v ≡ make x
  pub spelled : P x lines

-- The lines spell the value, by the kind of the file.
abbrev pub ReadLines : ReadForm → Value → List (List ℕ) → Type 0
ReadLines (form.Number lo hi) v lines = IsOneLine (IsDecimal lo hi) value.Number v lines
ReadLines (form.Signed lo hi) v lines = IsOneLine (IsSigned lo hi) value.Signed v lines
ReadLines form.Limit v lines = IsOneLine (IsLimit 0 any_u64) value.Limit v lines
ReadLines form.Mode v lines = IsOneLine IsMode value.Mode v lines
ReadLines form.Class v lines = IsOneLine IsClass value.Class v lines
ReadLines form.CpuMax v lines = IsOneLine IsCpuMax (λ (x : Limit × ℕ). value.CpuMax (x.0) (x.1)) v lines
ReadLines form.Clamp v lines = IsOneLine (IsClamp Read) value.Clamp v lines
ReadLines (form.Numbers lo hi) v lines = AreLinesOf (IsDecimal lo hi) value.Numbers v lines
ReadLines form.Words v lines = IsMadeOf AreWords value.Words v lines
ReadLines form.Flat v lines = IsMadeOf AreFlatLines value.Flat v lines
ReadLines form.FlatLimits v lines = IsMadeOf AreFlatLimits value.FlatLimits v lines
ReadLines (form.DeviceStats kernel) v lines = AreLinesOf (IsStatLine kernel) value.DeviceStats v lines
ReadLines (form.DeviceLimits kernel) v lines = AreLinesOf (IsLimitLine kernel) value.DeviceLimits v lines
ReadLines (form.DeviceWeights most kernel) v lines = AreWeightLines most kernel v lines
ReadLines (form.DeviceTargets kernel) v lines = AreLinesOf (IsTargetLine kernel) value.DeviceTargets v lines
ReadLines form.DeviceParams v lines = AreLinesOf IsParamLine value.DeviceParams v lines
ReadLines (form.Set most) v lines = IsOneLine (IsStrictList most) value.Set v lines
ReadLines form.Partition v lines = IsOneLine (λ (x : Role × Bool × Option (List ℕ)) line. IsPartition (x.0) (x.1) (x.2) line) (λ x. value.Partition (x.0) (x.1) (x.2)) v lines
ReadLines form.Pressure v lines = IsMadeOf (λ (x : Option Averages × Option Averages) ls. ArePressureLines (x.0) (x.1) ls) (λ x. value.Pressure (x.0) (x.1)) v lines
ReadLines form.Nested v lines = IsMadeOf AreNestedLines value.Nested v lines
ReadLines form.NodeStats v lines = IsOneLine IsNodeStats (λ (x : ℕ × List NestedPair). value.NodeStats (x.0) (x.1)) v lines
ReadLines form.Raw v lines = AreLinesOf IsRaw value.Raw v lines

-- A file of this kind can hold the value.
pub record Fits (kind : ReadForm) (v : Value) : Type 0 where
  pub lines : List (List ℕ)
  pub spelled : ReadLines kind v lines

-- The text is a file of this kind with the value.
pub record KindText (kind : ReadForm) (v : Value) (text : List ℕ) : Type 0 where
  pub lines : List (List ℕ)
  pub spelled : ReadLines kind v lines
  pub text_is : text ≡ unlines lines

-- The files of this kind.
abbrev pub KindFile : ReadForm → List ℕ → Type 0
KindFile kind = TextOf (λ text v. KindText kind v text)

-- The text is the file of this name with the value.
pub record FileText (profile : Profile) (name : List ℕ) (v : Value) (text : List ℕ) : Type 0 where
  pub kind : ReadForm
  pub kind_is : read_form_of profile name ≡ Some kind
  pub spelled : KindText kind v text

-- The files of this name.
abbrev pub File : Profile → List ℕ → List ℕ → Type 0
File profile name = TextOf (λ text v. FileText profile name v text)
