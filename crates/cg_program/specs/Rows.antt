-- Command lines written out, with what they ask for: the definitions meet them.
use Rattle.std.specs.Prelude.{ℕ, ◌≡◌, List, [], ◌∷◌, true, false, codes, Bool, IsSomeAnd}
use Rattle.clap.specs.Words.{Text, fault_of, matches_of, subcommand_of, takes}
use Rattle.clap.specs.declared.error.kind.ErrorKind.{ErrorKind}
use Rattle.clap.specs.declared.error.kind.ErrorKind.TheVariants.{DisplayHelp, DisplayVersion, MissingRequiredArgument, UnknownArgument}
use Rattle.cg_program.specs.CommandLine.{Lent, cgfile_app}
use Rattle.cg_value.specs.declared.profile.Profile.TheVariants.{One}
use Rattle.cg_program.specs.Words.{is_fit, is_welcome, limits_of, name_in, options_of}

-- `clap` takes these words, with this NAME, and it may stand there or not
abbrev pub IsNamed : Lent → List Text → (name : Text) → (welcome : Bool) → Type 0
IsNamed names words name welcome = (takes (cgfile_app names) words ≡ true)
    × IsSomeAnd (subcommand_of (cgfile_app names) words) (λ s. (name_in s.1 ≡ name) × (is_welcome One s.1 ≡ welcome))

abbrev pub KnownRows : Type 0
KnownRows = (names : Lent)
    → IsNamed names (codes "file" ∷ codes "--known" ∷ codes "cpu.weight" ∷ []) (codes "cpu.weight") true
    × IsNamed names (codes "setting" ∷ codes "cpu.max" ∷ codes "--known" ∷ []) (codes "cpu.max") true
    × IsNamed names (codes "file" ∷ codes "--known" ∷ codes "./cpu.weight" ∷ []) (codes "./cpu.weight") false
    × IsNamed names (codes "setting" ∷ codes "--known" ∷ codes "cpu.mx" ∷ []) (codes "cpu.mx") false
    × IsNamed names (codes "file" ∷ codes "./cpu.weight" ∷ []) (codes "./cpu.weight") true
    × IsNamed names (codes "file" ∷ codes "--" ∷ codes "--known" ∷ []) (codes "--known") true

-- `clap` takes these words, with this limit of the records of an entry
abbrev pub IsLimited : Lent → List Text → (lines : ℕ) → Type 0
IsLimited names words lines = (takes (cgfile_app names) words ≡ true)
    × IsSomeAnd (subcommand_of (cgfile_app names) words) (λ s. (limits_of (matches_of (cgfile_app names) words) s.1).max_lines ≡ lines)

abbrev pub LimitRows : Type 0
LimitRows = (names : Lent)
    → IsLimited names (codes "show" ∷ []) 1000000
    × IsLimited names (codes "--max-lines" ∷ codes "7" ∷ codes "show" ∷ []) 7
    × IsLimited names (codes "show" ∷ codes "--max-lines=9" ∷ []) 9
    × IsLimited names (codes "--max-lines" ∷ codes "7" ∷ codes "show" ∷ codes "--max-lines" ∷ codes "9" ∷ []) 9

-- these words have this error
abbrev pub Fails : Lent → List Text → ErrorKind → Type 0
Fails names words kind = fault_of (cgfile_app names) words ≡ kind ∷ []

abbrev pub FaultRows : Type 0
FaultRows = (names : Lent)
    → Fails names (codes "--help" ∷ []) DisplayHelp
    × Fails names (codes "file" ∷ codes "-h" ∷ []) DisplayHelp
    × Fails names (codes "--version" ∷ []) DisplayVersion
    × Fails names (codes "file" ∷ []) MissingRequiredArgument
    × Fails names (codes "show" ∷ codes "--known" ∷ []) UnknownArgument
    × Fails names (codes "show" ∷ codes "--explained" ∷ []) UnknownArgument
    × Fails names (codes "show" ∷ codes "x" ∷ []) UnknownArgument

-- `clap` takes these words, and the option is used or not
abbrev pub IsExplained : Lent → List Text → (explain : Bool) → Type 0
IsExplained names words explain = (takes (cgfile_app names) words ≡ true)
    × IsSomeAnd (subcommand_of (cgfile_app names) words) (λ s. (options_of (matches_of (cgfile_app names) words) s.1).explain ≡ explain)

abbrev pub ExplainRows : Type 0
ExplainRows = (names : Lent)
    → IsExplained names (codes "show" ∷ []) false
    × IsExplained names (codes "--explain" ∷ codes "show" ∷ []) true
    × IsExplained names (codes "kinds" ∷ codes "--explain" ∷ []) true
    × IsExplained names (codes "file" ∷ codes "--explain" ∷ codes "--known" ∷ codes "cpu.weight" ∷ []) true
    × IsExplained names (codes "file" ∷ codes "--" ∷ codes "--explain" ∷ []) false

-- `clap` takes these words, `--keep-going` is used or not, and the options fit or not
abbrev pub IsGoneOnWith : Lent → List Text → (keep_going fit : Bool) → Type 0
IsGoneOnWith names words keep_going fit = (takes (cgfile_app names) words ≡ true)
    × IsSomeAnd (subcommand_of (cgfile_app names) words) (λ s. let options = options_of (matches_of (cgfile_app names) words) s.1 in
    (options.keep_going ≡ keep_going) × (is_fit s.0 options ≡ fit))

abbrev pub GoingOnRows : Type 0
GoingOnRows = (names : Lent)
    → IsGoneOnWith names (codes "show" ∷ []) false true
    × IsGoneOnWith names (codes "--keep-going" ∷ codes "show" ∷ []) true true
    × IsGoneOnWith names (codes "json" ∷ codes "--keep-going" ∷ []) true true
    × IsGoneOnWith names (codes "--keep-going" ∷ codes "check" ∷ codes "--keep-going" ∷ []) true true
    × IsGoneOnWith names (codes "plan" ∷ codes "--keep-going" ∷ []) true false
    × IsGoneOnWith names (codes "--keep-going" ∷ codes "kinds" ∷ []) true false
    × IsGoneOnWith names (codes "--keep-going" ∷ codes "file" ∷ codes "cpu.weight" ∷ []) true false
    × IsGoneOnWith names (codes "setting" ∷ codes "--keep-going" ∷ codes "cpu.max" ∷ []) true false
    × IsGoneOnWith names (codes "--explain" ∷ codes "show" ∷ codes "--keep-going" ∷ []) true true
