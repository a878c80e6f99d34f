-- Why bytes are no file of a name, or no write to it.
use Rattle.std.specs.Prelude.{◌≡◌, ◌⊎◌, ℕ, List, Bool, true, false, None}
use Rattle.cg_value.specs.Files.{File}
use Rattle.cg_value.specs.Settings.{Write}
use Rattle.cg_value.specs.Table.{read_form_of, write_form_of}
use Rattle.cg_value.specs.declared.profile.Profile.{Profile}
use Rattle.cg_line.specs.Decode.{IsStarved}
use Rattle.cg_source.specs.Explained.{IsExplanation}

-- The writes to the file of the name, or the files of it.
abbrev pub Texts : Profile → List ℕ → (is_written : Bool) → List ℕ → Type 0
Texts profile name true = Write profile name
Texts profile name false = File profile name

-- A file of the name can't be written, or read.
abbrev pub HasNoForm : Profile → List ℕ → (is_written : Bool) → Type 0
HasNoForm profile name true = write_form_of profile name ≡ None
HasNoForm profile name false = read_form_of profile name ≡ None

-- Memory was refused at a byte with which a text goes on, or for the line.
abbrev pub HasNoMemory : Profile → List ℕ → (is_written : Bool) → List ℕ → Type 0
HasNoMemory profile name is_written text =
    IsStarved (Texts profile name is_written) text ⊎ ((line : List ℕ) × IsExplanation (Texts profile name is_written) name text line)

abbrev pub the_line : List ℕ → List ℕ
the_line line = line
