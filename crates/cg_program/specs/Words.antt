-- What the words of a command line ask for: what is made of `clap`'s own function of the words.
use Rattle.std.specs.Prelude.{ℕ, ◌≡◌, ◌⊎◌, List, [], ◌∷◌, Option, Some, None, true, false, codes, unwrap_or, Bool, not, ◌||◌, ◌&&◌, nat_lt, length, string_bytes, if◌then◌else◌, ◌<◌, ◌≢◌, IsSomeAnd, IfOk, IfErr, Result, Ok, Err}
use Rattle.std.specs.Char.{digit_value}
use Rattle.std.specs.List.{list_all}
use Rattle.std.specs.Str.{bytes_eq}
use Rattle.std.specs.Str.Parse.{digits_value, without_leading_plus}
use Rattle.cg_snap.specs.declared.limits.Limits.{Limits}
use Rattle.cg_value.specs.Table.{has_row}
use Rattle.cg_value.specs.declared.profile.Profile.{Profile}
use Rattle.cg_value.specs.declared.profile.Profile.TheVariants.{One, Two, Kernel}
use Rattle.cg_program.specs.CommandLine.{Lent, cgfile_app, texts_of}
use Rattle.cg_run.specs.declared.command.Command.{Command}
use Rattle.cg_run.specs.declared.command.Command.TheVariants.{File, Setting, Show, Json, Check, Plan, Kinds}
use Rattle.cg_run.specs.declared.options.Options.{Options}
use Rattle.cg_program.specs.declared.words.Request.{Request}
use Rattle.cg_program.specs.declared.words.UsageFault.{UsageFault}
use Rattle.cg_program.specs.declared.words.UsageFault.TheVariants.{Help, Bad, OutOfMemory}
use Rattle.clap.specs.Words.{Row, Text, Kinds as Errors, IsAmong, fault_of, first_of, one_of, matches_of, subcommand_of, takes}
use Rattle.clap.specs.declared.error.kind.ErrorKind.{ErrorKind}
use Rattle.clap.specs.declared.error.kind.ErrorKind.TheVariants as errors

-- ---- the options

-- `text.parse::<u64>().unwrap_or(given)`
abbrev pub number_in : (given : ℕ) → Text → ℕ
number_in given text =
    let digits = without_leading_plus text in
    if nat_lt 0 (length digits) && list_all (λ d. nat_lt (digit_value d) 10) digits
    && nat_lt (digits_value 10 digits) 18446744073709551616 then digits_value 10 digits else given

-- the number that an option gives, and another where it isn't used
abbrev pub number_or : (given : ℕ) → Option Text → ℕ
number_or given None = given
number_or given (Some text) = number_in given text

-- the number of an option, which stands after the command's word or before it
abbrev pub number_of : (given : ℕ) (id : Text) (before after : List Row) → ℕ
number_of given id before after = number_or (number_or given (one_of id before)) (one_of id after)

abbrev pub limits_of : (before after : List Row) → Limits
limits_of before after = record {
  max_record = number_of 1048576 (codes "max-record") before after;
  max_lines = number_of 1000000 (codes "max-lines") before after;
  max_stream = number_of 1073741824 (codes "max-stream") before after;
}

-- the profile that has this name, and another where none is named
abbrev pub profile_named : (given : Profile) → Option Text → Profile
profile_named given None = given
profile_named given (Some name) = if bytes_eq name (codes "2") then Two else (if bytes_eq name (codes "kernel") then Kernel else One)

abbrev pub profile_of : (before after : List Row) → Profile
profile_of before after = profile_named (profile_named One (first_of (codes "profile") before)) (first_of (codes "profile") after)

-- an option without a value is used
abbrev pub is_set : Option Text → Bool
is_set None = false
is_set (Some text) = bytes_eq text (codes "true")

abbrev pub is_used : (id : Text) → List Row → Bool
is_used id rows = is_set (one_of id rows)

-- the options before the command's word or after it
abbrev pub options_of : (before after : List Row) → Options
options_of before after = record {
  explain = is_used (codes "explain") before || is_used (codes "explain") after;
  keep_going = is_used (codes "keep-going") before || is_used (codes "keep-going") after;
}

-- one of them is used
abbrev pub uses_any : Options → Bool
uses_any options = options.explain || options.keep_going

-- what is at fault may be left out of what the command of this word reads: of a snapshot
abbrev pub goes_on : (name : Text) → Bool
goes_on name = bytes_eq name (codes "show") || (bytes_eq name (codes "json") || bytes_eq name (codes "check"))

-- the options go with the command of this word
abbrev pub is_fit : (name : Text) → Options → Bool
is_fit name options = not options.keep_going || goes_on name

-- ---- the command

-- NAME of a subcommand, which is there as `clap` requires it
abbrev pub name_in : List Row → Text
name_in rows = unwrap_or (first_of (codes "NAME") rows) []

-- `--known` is used
abbrev pub wants_known : List Row → Bool
wants_known rows = is_used (codes "known") rows

-- NAME may stand there: with `--known` only a name of the profile's file table may
abbrev pub is_welcome : Profile → List Row → Bool
is_welcome profile rows = not (wants_known rows) || has_row profile (name_in rows)

-- the command that a subcommand's name and matches stand for
abbrev pub IsCommand : Profile → (name : Text) → List Row → Command → Type 0
IsCommand profile name rows (File held) = (name ≡ codes "file") × (held.items ≡ name_in rows) × (is_welcome profile rows ≡ true)
IsCommand profile name rows (Setting held) = (name ≡ codes "setting") × (held.items ≡ name_in rows) × (is_welcome profile rows ≡ true)
IsCommand profile name rows Show = name ≡ codes "show"
IsCommand profile name rows Json = name ≡ codes "json"
IsCommand profile name rows Check = name ≡ codes "check"
IsCommand profile name rows Plan = name ≡ codes "plan"
IsCommand profile name rows Kinds = name ≡ codes "kinds"

-- the words of commands
abbrev pub is_plain_word : Text → Bool
is_plain_word name = bytes_eq name (codes "show") || (bytes_eq name (codes "json")
    || (bytes_eq name (codes "check") || (bytes_eq name (codes "plan") || bytes_eq name (codes "kinds"))))

abbrev pub is_word : Text → Bool
is_word name = bytes_eq name (codes "file") || (bytes_eq name (codes "setting") || is_plain_word name)

-- what is made of the matches before a subcommand, and of the subcommand's name and matches
pub record IsMadeFrom (before : List Row) (sub : Text × List Row) (r : Request) : Type 0 where
  pub profile : r.profile ≡ profile_of before sub.1
  pub limits : r.limits ≡ limits_of before sub.1
  pub options : r.options ≡ options_of before sub.1
  pub fit : is_fit sub.0 (options_of before sub.1) ≡ true
  pub command : IsCommand (profile_of before sub.1) sub.0 sub.1 r.command

-- ... where a subcommand is met
abbrev pub IsMade : (before : List Row) → Option (Text × List Row) → Request → Type 0
IsMade before sub r = IsSomeAnd sub (λ s. IsMadeFrom before s r)

-- the subcommand that is met has the word of a command
abbrev pub is_met : Option (Text × List Row) → Bool
is_met None = false
is_met (Some s) = is_word s.0

-- the name that is given to the subcommand isn't welcome, or the options don't fit
abbrev pub IsUnwelcome : (before : List Row) → Option (Text × List Row) → Type 0
IsUnwelcome before sub = IsSomeAnd sub (λ s. (is_welcome (profile_of before s.1) s.1 ≡ false) ⊎ (is_fit s.0 (options_of before s.1) ≡ false))

-- why matches give no command: no memory was left, or the name isn't welcome, or the options don't fit
abbrev pub IsRefusal : (before : List Row) → Option (Text × List Row) → UsageFault → Type 0
IsRefusal before sub fault = (fault ≡ OutOfMemory) ⊎ ((fault ≡ Bad) × IsUnwelcome before sub)

-- why the matches of a subcommand give no command in the profile
abbrev pub IsUnchosen : Profile → List Row → UsageFault → Type 0
IsUnchosen profile rows fault = (fault ≡ OutOfMemory) ⊎ ((fault ≡ Bad) × (is_welcome profile rows ≡ false))

-- ---- what the words ask for

-- how an error of `clap` is told: where help or the version is asked for, by a text that isn't empty
abbrev pub IsToldOf : ErrorKind → UsageFault → Type 0
IsToldOf kind (Help text) = ((kind ≡ errors.DisplayHelp) ⊎ (kind ≡ errors.DisplayVersion)) × (0 < length (string_bytes text))
IsToldOf kind Bad = (kind ≢ errors.DisplayHelp) × (kind ≢ errors.DisplayVersion) × (kind ≢ errors.OutOfMemory)
IsToldOf kind OutOfMemory = Unit {0}

-- Which faults are told of words at which `clap`'s function gives these kinds of errors: a text only where help or the
-- version is asked for, and a bad command line only where something else is wrong, or the name isn't welcome, or the options
-- don't fit.
abbrev pub IsTold : Errors → (before : List Row) → Option (Text × List Row) → UsageFault → Type 0
IsTold kinds before sub OutOfMemory = Unit {0}
IsTold kinds before sub (Help text) = (kind : ErrorKind) × IsAmong kind kinds × IsToldOf kind (Help text)
IsTold kinds before sub Bad = ((kind : ErrorKind) × IsAmong kind kinds × IsToldOf kind Bad) ⊎ ((kinds ≡ []) × IsUnwelcome before sub)

-- The answer to these words, the profiles' names lying somewhere. It is made of what `clap`'s function of the words gives,
-- and only where that gives no error; a fault is told as that function's errors say; and where `clap` takes the words, the
-- only faults are want of memory, a name that isn't welcome, and options that don't fit.
pub record IsAnswer (names : Lent) (words : List Text) (answer : Result Request UsageFault) : Type 0 where
  pub profiles : texts_of names ≡ codes "1" ∷ codes "2" ∷ codes "kernel" ∷ []
  pub made : IfOk answer (IsMade (matches_of (cgfile_app names) words) (subcommand_of (cgfile_app names) words))
  pub right : IfOk answer (λ _. fault_of (cgfile_app names) words ≡ [])
  pub told : IfErr answer (IsTold (fault_of (cgfile_app names) words) (matches_of (cgfile_app names) words) (subcommand_of (cgfile_app names) words))
  pub taken : takes (cgfile_app names) words ≡ true → IfErr answer (IsRefusal (matches_of (cgfile_app names) words) (subcommand_of (cgfile_app names) words))

abbrev pub Answers : (words : List Text) → Result Request UsageFault → Type 0
Answers words answer = (names : Lent) × IsAnswer names words answer

-- The same without the options: words that use one are a bad command line.
abbrev pub IsPlainOf : Result Request UsageFault → Result (Profile × Command × Limits) UsageFault → Type 0
IsPlainOf (Ok r) (Ok asked) = (uses_any r.options ≡ false) × (asked ≡ (r.profile, r.command, r.limits))
IsPlainOf (Ok r) (Err fault) = (uses_any r.options ≡ true) × (fault ≡ Bad)
IsPlainOf (Err fault) (Ok asked) = ⊥
IsPlainOf (Err fault) (Err told) = told ≡ fault

abbrev pub AnswersPlain : (words : List Text) → Result (Profile × Command × Limits) UsageFault → Type 0
AnswersPlain words answer = (request : Result Request UsageFault) × Answers words request × IsPlainOf request answer
