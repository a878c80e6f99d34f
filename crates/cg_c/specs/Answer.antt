-- What a call answers: in which profile, what lies in the caller's buffer, and what is wrong with a text.
use Rattle.std.specs.Prelude.{◌≡◌, ◌<◌, ◌⊎◌, ◌++◌, ◌||◌, ℕ, suc, zero, nat_eq, Bool, false, List, [], ◌∷◌, length, drop, Option, Some, None, Result, Ok, Err}
use Rattle.cg_text.specs.Texts.{FirstBad}
use Rattle.cg_value.specs.Files.{FileText, File}
use Rattle.cg_value.specs.Table.{read_form_of}
use Rattle.cg_value.specs.declared.profile.Profile.{Profile}
use Rattle.cg_value.specs.declared.profile.Profile.TheVariants.{One, Two, Kernel}
use Rattle.cg_value.specs.declared.value.Value.{Value}
use Rattle.cg_line.specs.Decode.{IsCut, IsStarved}
use Rattle.cg_line.specs.declared.decode.FileFault.{FileFault}
use Rattle.cg_line.specs.declared.decode.FileFault.TheVariants.{NotReadable, Refused, Cut, OutOfMemory}

-- The status is one of these.
abbrev pub is_one_of : ℕ → List ℕ → Bool
is_one_of status [] = false
is_one_of status (s ∷ statuses) = nat_eq status s || is_one_of status statuses

-- The profile of a number.
abbrev pub profile_of : ℕ → Option Profile
profile_of zero = None
profile_of (suc zero) = Some One
profile_of (suc (suc zero)) = Some Two
profile_of (suc (suc (suc zero))) = Some Kernel
profile_of (suc (suc (suc (suc n)))) = None

-- A text of this length lies at the front of a buffer of which the rest is what it was.
pub record IsPut (text old new : List ℕ) (count : ℕ) : Type 0 where
  pub count_is : count ≡ length text
  pub put : new ≡ text ++ drop (length text) old

-- A text of this length is longer than a buffer.
pub record IsTooLong (text old : List ℕ) (count : ℕ) : Type 0 where
  pub count_is : count ≡ length text
  pub long : length old < count

-- Of a value for which this holds, what is printed lies in the buffer; or is longer than it.
abbrev pub IsPrinted : {V : Type 0} → (V → Type 0) → (V → List ℕ) → List ℕ → List ℕ → ℕ → Type 0
IsPrinted {V} Holds print old new count = (v : V) × Holds v × IsPut (print v) old new count

abbrev pub HasNoRoom : {V : Type 0} → (V → Type 0) → (V → List ℕ) → List ℕ → ℕ → Type 0
HasNoRoom {V} Holds print old count = (v : V) × Holds v × IsTooLong (print v) old count

-- Memory was refused at a byte with which a text of the set goes on, or for the answer to a text of the set.
abbrev pub IsOutOfMemory : (List ℕ → Type 0) → List ℕ → Type 0
IsOutOfMemory L text = IsStarved L text ⊎ L text

-- What is told of a file: what its value gives, or why the bytes are no file, or that memory was refused.
abbrev pub IsFileTold : {X : Type 0} → Profile → List ℕ → List ℕ → (Value → X → Type 0) → Result X FileFault → Type 0
IsFileTold profile name text Gives (Ok x) = (v : Value) × FileText profile name v text × Gives v x
IsFileTold profile name text Gives (Err NotReadable) = read_form_of profile name ≡ None
IsFileTold profile name text Gives (Err (Refused at)) = FirstBad (File profile name) text at
IsFileTold profile name text Gives (Err (Cut at)) = IsCut (File profile name) text at
IsFileTold profile name text Gives (Err OutOfMemory) = IsOutOfMemory (File profile name) text
