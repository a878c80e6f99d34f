-- How the text of a partition is turned into its value.
use Rattle.std.specs.Prelude.{ℕ, Bool, true, false, List, Option, Some, None}
use Rattle.cg_text.specs.Keyword.{text_of}
use Rattle.cg_text.specs.Raw.{IsReason}
use Rattle.cg_text.specs.declared.keyword.Keyword.TheVariants as word
use Rattle.cg_join.specs.Maybe.{IsMaybe}
use Rattle.cg_join.specs.Spelling.{IsConcat, IsEither}
use Rattle.cg_join.specs.TextBytes.{IsFixed}
use Rattle.cg_join.specs.declared.choice.Either.{Either}
use Rattle.cg_join.specs.declared.choice.Either.TheVariants.{Left, Right}
use Rattle.cg_value.specs.declared.value.Role.{Role}
use Rattle.cg_value.specs.declared.value.Role.TheVariants.{Member, Root, Isolated}
use Rattle.cg_value.specs.declared.value.Value.{Value}
use Rattle.cg_value.specs.declared.value.Value.TheVariants.{Partition}

-- A root or an isolated one; a reason; that it is invalid, perhaps with a reason; and all of a partition.
abbrev pub RootValue : Type 0
RootValue = Either (Unit {0}) (Unit {0})

abbrev pub ReasonValue : Type 0
ReasonValue = Unit {0} × List ℕ

abbrev pub InvalidValue : Type 0
InvalidValue = Unit {0} × Option ReasonValue

abbrev pub PartitionValue : Type 0
PartitionValue = Either (Unit {0}) (RootValue × Option InvalidValue)

-- The word of a role other than a member's.
abbrev pub IsRootWord : List ℕ → RootValue → Type 0
IsRootWord text v = IsEither (IsFixed (text_of word.Root)) (IsFixed (text_of word.Isolated)) text v

-- A reason in parentheses, after a space.
abbrev pub IsReasonText : List ℕ → ReasonValue → Type 0
IsReasonText text v = IsConcat (IsFixed (text_of word.Opening)) (λ t reason. IsReason reason t) text v

-- That the partition is invalid, and perhaps why.
abbrev pub IsInvalidText : List ℕ → InvalidValue → Type 0
IsInvalidText text v = IsConcat (IsFixed (text_of word.Invalid)) (IsMaybe IsReasonText) text v

-- Such a role, valid or not.
abbrev pub IsRootText : List ℕ → RootValue × Option InvalidValue → Type 0
IsRootText text v = IsConcat IsRootWord (IsMaybe IsInvalidText) text v

-- A member, or such a role.
abbrev pub IsPartitionText : List ℕ → PartitionValue → Type 0
IsPartitionText text v = IsEither (IsFixed (text_of word.Member)) IsRootText text v

abbrev pub root_role : RootValue → Role
root_role (Left _) = Root
root_role (Right _) = Isolated

abbrev pub reason_of : Option ReasonValue → Option (List ℕ)
reason_of None = None
reason_of (Some v) = Some v.1

-- The role, whether it is valid, and why it isn't.
abbrev pub root_parts : Role → Option InvalidValue → Role × Bool × Option (List ℕ)
root_parts role None = (role, true, None)
root_parts role (Some v) = (role, false, reason_of v.1)

abbrev pub partition_parts : PartitionValue → Role × Bool × Option (List ℕ)
partition_parts (Left _) = (Member, true, None)
partition_parts (Right v) = root_parts (root_role v.0) v.1

abbrev pub partition_value : PartitionValue × Unit {0} → Value
partition_value v = Partition ((partition_parts v.0).0) ((partition_parts v.0).1) ((partition_parts v.0).2)
