-- How the values of a file's only line are turned into those of files.
use Rattle.std.specs.Prelude.{ℕ, ℤ, List, codes}
use Rattle.cg_text.specs.declared.values.Clamp.{Clamp}
use Rattle.cg_text.specs.declared.values.IoClass.{IoClass}
use Rattle.cg_text.specs.declared.values.Limit.{Limit}
use Rattle.cg_join.specs.Spelling.{IsEither}
use Rattle.cg_join.specs.TextBytes.{IsFixed}
use Rattle.cg_join.specs.declared.choice.Either.{Either}
use Rattle.cg_join.specs.declared.choice.Either.TheVariants.{Left, Right}
use Rattle.cg_value.specs.declared.value.GroupMode.{GroupMode}
use Rattle.cg_value.specs.declared.value.GroupMode.TheVariants.{Domain, DomainThreaded, DomainInvalid, Threaded}
use Rattle.cg_value.specs.declared.value.Value.{Value}
use Rattle.cg_value.specs.declared.value.Value.TheVariants.{Signed, Class, Clamp as ClampOf, CpuMax, Mode, Set}

abbrev pub signed_value : ℤ × Unit {0} → Value
signed_value v = Signed v.0

abbrev pub clamp_value : Clamp × Unit {0} → Value
clamp_value v = ClampOf v.0

abbrev pub class_value : IoClass × Unit {0} → Value
class_value v = Class v.0

abbrev pub set_value : List (ℕ × ℕ) × Unit {0} → Value
set_value v = Set v.0

-- Which of four words.
abbrev pub OneOfFour : Type 0
OneOfFour = Either (Either (Unit {0}) (Unit {0})) (Either (Unit {0}) (Unit {0}))

-- The words of modes.
abbrev pub IsModeWord : List ℕ → OneOfFour → Type 0
IsModeWord text v = IsEither (IsEither (IsFixed (codes "domain")) (IsFixed (codes "domain threaded"))) (IsEither (IsFixed (codes "domain invalid")) (IsFixed (codes "threaded"))) text v

abbrev pub mode_of : OneOfFour → GroupMode
mode_of (Left (Left _)) = Domain
mode_of (Left (Right _)) = DomainThreaded
mode_of (Right (Left _)) = DomainInvalid
mode_of (Right (Right _)) = Threaded

abbrev pub mode_value : OneOfFour × Unit {0} → Value
mode_value v = Mode (mode_of v.0)

-- A quota and its period, without the space between.
abbrev pub quota_of : Limit × (Unit {0} × ℕ) → Limit × ℕ
quota_of v = (v.0, v.1.1)

abbrev pub cpu_max_value : (Limit × (Unit {0} × ℕ)) × Unit {0} → Value
cpu_max_value v = CpuMax v.0.0 v.0.1.1
