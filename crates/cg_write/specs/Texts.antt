-- The texts of lines and of their parts, each with what it spells, where tokens take them part by part (cgroup-v2.rst,
-- memory.max, memory.reclaim, cpuset.cpus.partition, cgroup.subtree_control, io.max and io.weight; psi.rst, "Monitoring for
-- pressure thresholds").
use Rattle.std.specs.Prelude.{◌≡◌, ℕ, Bool, true, List, [], ◌∷◌, Option, Some, None, codes}
use Rattle.cg_text.specs.Decimal.{IsDecimal}
use Rattle.cg_text.specs.Keyword.{text_of}
use Rattle.cg_text.specs.LimitPairs.{AreLimits}
use Rattle.cg_text.specs.Raw.{IsRawLine}
use Rattle.cg_text.specs.Size.{IsSize}
use Rattle.cg_text.specs.Trigger.{AreTimes}
use Rattle.cg_text.specs.Word.{IsControllerWord}
use Rattle.cg_text.specs.declared.keyword.Keyword.TheVariants as word
use Rattle.cg_text.specs.declared.pairs.LimitPairs.{LimitPairs}
use Rattle.cg_text.specs.declared.trigger.Times.{Times}
use Rattle.cg_text.specs.declared.values.Device.{Device}
use Rattle.cg_text.specs.declared.values.Limit.{Limit}
use Rattle.cg_join.specs.Composites.{IsADevice, IsLabelled, IsLimitWhere, IsNumberIn, IsSpaced}
use Rattle.cg_join.specs.Maybe.{IsMaybe}
use Rattle.cg_join.specs.Repeat.{AreJoined}
use Rattle.cg_join.specs.Spelling.{IsConcat, IsEither}
use Rattle.cg_join.specs.TextBytes.{IsFixed}
use Rattle.cg_join.specs.WordStartLaws.{SpellsWord}
use Rattle.cg_join.specs.declared.choice.Either.{Either}
use Rattle.cg_value.specs.WriteLine.{IsDefaultWrite, sign_of}
use Rattle.cg_value.specs.declared.setting.Toggle.{Toggle}

-- Which of two words.
abbrev pub OneOfTwo : Type 0
OneOfTwo = Either (Unit {0}) (Unit {0})

-- Which of three words.
abbrev pub OneOfThree : Type 0
OneOfThree = Either (Unit {0}) OneOfTwo

-- ---- Sizes

abbrev pub IsASize : List ℕ → ℕ → Type 0
IsASize text n = IsSize n text

-- max, or a size.
abbrev pub IsSizeOrMax : List ℕ → Either ℕ (Unit {0}) → Type 0
IsSizeOrMax text v = IsEither IsASize (IsFixed (text_of word.Max)) text v

-- A swappiness, a number or, where it may be, max; after its label; and a size, alone or with it.
abbrev pub IsASwappiness : Bool → List ℕ → Limit → Type 0
IsASwappiness max text v = IsLimitWhere max 0 200 text v

abbrev pub IsLabelledSwappiness : Bool → List ℕ → Unit {0} × Limit → Type 0
IsLabelledSwappiness max text v = IsLabelled word.Swappiness (IsASwappiness max) text v

abbrev pub IsWrittenReclaim : Bool → List ℕ → ℕ × Option (Unit {0} × Limit) → Type 0
IsWrittenReclaim max text v = IsConcat IsASize (IsMaybe (IsLabelledSwappiness max)) text v

-- ---- Words

-- root or isolated; and member, or one of these.
abbrev pub IsRootWord : List ℕ → OneOfTwo → Type 0
IsRootWord text v = IsEither (IsFixed (text_of word.Root)) (IsFixed (text_of word.Isolated)) text v

abbrev pub IsRoleWord : List ℕ → OneOfThree → Type 0
IsRoleWord text v = IsEither (IsFixed (text_of word.Member)) IsRootWord text v

-- A raw line, which is its own text.
abbrev pub IsOwnLine : List ℕ → List ℕ → Type 0
IsOwnLine text bytes = (bytes ≡ text) × IsRawLine text

-- ---- Devices

-- A device, a space and some of its limits.
abbrev pub AreSomeLimits : List ℕ → LimitPairs → Type 0
AreSomeLimits text limits = AreLimits limits text

abbrev pub IsSpacedLimits : List ℕ → Device × (Unit {0} × LimitPairs) → Type 0
IsSpacedLimits text v = IsConcat IsADevice (IsSpaced AreSomeLimits) text v

-- ---- Triggers

-- some or full; a stall and a window; and the word, a space and the times.
abbrev pub IsTasksWord : List ℕ → OneOfTwo → Type 0
IsTasksWord text v = IsEither (IsFixed (text_of word.Some)) (IsFixed (text_of word.Full)) text v

abbrev pub AreSomeTimes : List ℕ → Times → Type 0
AreSomeTimes text times = AreTimes times text

abbrev pub IsThreshold : List ℕ → OneOfTwo × (Unit {0} × Times) → Type 0
IsThreshold text v = IsConcat IsTasksWord (IsSpaced AreSomeTimes) text v

-- ---- Controllers

-- + or -.
abbrev pub IsSign : List ℕ → OneOfTwo → Type 0
IsSign text v = IsEither (IsFixed (43 ∷ [])) (IsFixed (45 ∷ [])) text v

-- A sign and a controller's word, part by part; and as the toggle that they spell.
abbrev pub IsSignAndWord : List ℕ → OneOfTwo × List ℕ → Type 0
IsSignAndWord text v = IsConcat IsSign (SpellsWord true) text v

abbrev pub IsToggle : List ℕ → Toggle → Type 0
IsToggle text t = (text ≡ sign_of t.on ∷ t.name) × IsControllerWord t.name

-- One or more toggles with single spaces between.
abbrev pub AreJoinedToggles : List ℕ → List Toggle → Type 0
AreJoinedToggles text toggles = AreJoined IsToggle 32 text toggles

-- ---- Weights

-- The weights are at most most.
abbrev pub IsWeight : ℕ → List ℕ → ℕ → Type 0
IsWeight most text n = IsNumberIn 1 most text n

-- The word default, or a weight, part by part; and as the weight, which is none for the word.
abbrev pub IsWordOrWeight : ℕ → List ℕ → Either (Unit {0}) ℕ → Type 0
IsWordOrWeight most text v = IsEither (IsFixed (text_of word.Default)) (IsWeight most) text v

abbrev pub IsChosen : ℕ → List ℕ → Option ℕ → Type 0
IsChosen most text None = text ≡ codes "default"
IsChosen most text (Some n) = IsDecimal 1 most n text

-- A weight, alone or after the word and a space, part by part; and as the weight.
abbrev pub IsNamedWeight : ℕ → List ℕ → Unit {0} × (Unit {0} × ℕ) → Type 0
IsNamedWeight most text v = IsLabelled word.Default (IsSpaced (IsWeight most)) text v

abbrev pub IsPlainOrNamed : ℕ → List ℕ → Either ℕ (Unit {0} × (Unit {0} × ℕ)) → Type 0
IsPlainOrNamed most text v = IsEither (IsWeight most) (IsNamedWeight most) text v

abbrev pub IsDefault : ℕ → List ℕ → ℕ → Type 0
IsDefault most text n = IsDefaultWrite most n text

-- A device, a space and its weight; and the default weight, or these.
abbrev pub IsDeviceAndWeight : ℕ → List ℕ → Device × (Unit {0} × Option ℕ) → Type 0
IsDeviceAndWeight most text v = IsConcat IsADevice (IsSpaced (IsChosen most)) text v

abbrev pub IsAnyWeight : ℕ → List ℕ → Either ℕ (Device × (Unit {0} × Option ℕ)) → Type 0
IsAnyWeight most text v = IsEither (IsDefault most) (IsDeviceAndWeight most) text v
