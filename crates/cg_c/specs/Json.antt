-- The line of JSON of a file at a path.
use Rattle.std.specs.Prelude.{◌≡◌, ◌++◌, ℕ, List, [], ◌∷◌}
use Rattle.serde_json.specs.Written.{compact_text}
use Rattle.cg_value.specs.Entry.{IsEntry, IsPath}
use Rattle.cg_value.specs.Path.{IsNameOf}
use Rattle.cg_value.specs.Print.{print_lines}
use Rattle.cg_value.specs.declared.entry.EntryFault.{EntryFault}
use Rattle.cg_value.specs.declared.entry.EntryFault.TheVariants as why
use Rattle.cg_value.specs.declared.profile.Profile.{Profile}
use Rattle.cg_value.specs.declared.value.Value.{Value}
use Rattle.cg_json.specs.Entry.{tree_of}
use Rattle.cg_c.specs.declared.json.Line.{Line}
use Rattle.cg_c.specs.declared.json.Line.TheVariants.{Text, BadPath, NoLines}

-- The name of the path is one of which this holds.
abbrev pub OfName : List ℕ → (List ℕ → Type 0) → Type 0
OfName path Holds = (name : List ℕ) × IsNameOf path name × Holds name

-- The compact text of the tree of a path and a value, and a newline.
abbrev pub json_line : List ℕ → Value → List ℕ
json_line path v = compact_text (tree_of path v) ++ 10 ∷ []

-- The line of an entry; or why there is no entry.
abbrev pub IsLineOf : Profile → List ℕ → Value → Line → Type 0
IsLineOf profile path v (Text text) = IsEntry profile path v × (text.items ≡ json_line path v)
IsLineOf profile path v BadPath = IsPath path → ⊥
IsLineOf profile path v NoLines = print_lines v ≡ []

-- What is told where a value of the file at the path makes no entry.
abbrev pub no_line : EntryFault → Line
no_line why.BadPath = BadPath
no_line why.NotReadable = NoLines
no_line why.WrongKind = NoLines
no_line why.NoLines = NoLines
