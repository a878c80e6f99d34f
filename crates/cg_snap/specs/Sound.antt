-- What is known of the entry whose records come, whatever came before it.
use Rattle.std.specs.Prelude.{ℕ, List, Some}
use Rattle.cg_value.specs.Entry.{IsPath, ReadsAt}
use Rattle.cg_value.specs.declared.kind.ReadForm.{ReadForm}
use Rattle.cg_value.specs.declared.profile.Profile.{Profile}
use Rattle.cg_line.specs.Reads.{Reads}
use Rattle.cg_line.specs.declared.reader.ValueReader.{ValueReader}

-- The path is good, and a file there is of this kind in some profile.
pub record IsReadable (path : List ℕ) (kind : ReadForm) : Type 0 where
  pub good : IsPath path
  pub profile : Profile
  pub reads_at : ReadsAt profile path (Some kind)

-- The reader took some bytes of a file at the path. Its truncation says that there are such a kind and such bytes.
abbrev pub IsSound : List ℕ → ValueReader → Type 0
IsSound path reader = ∥ ((kind : ReadForm) × (taken : List ℕ) × IsReadable path kind × Reads reader kind taken) ∥₁
