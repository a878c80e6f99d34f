-- The list of the kinds of files, a line for each row of the file table.
use Rattle.std.specs.Prelude.{ℕ, List, ◌++◌, Option, Some, None, codes, map}
use Rattle.cg_value.specs.Kind.{read_word, write_word}
use Rattle.cg_value.specs.Table.{Row, rows}
use Rattle.cg_value.specs.declared.profile.Profile.{Profile}

-- The word of a kind, and `-` where there is none.
abbrev pub word_or_dash : {F : Type 0} → (F → List ℕ) → Option F → List ℕ
word_or_dash word None = codes "-"
word_or_dash word (Some form) = word form

-- The line of a row: the name, the kind of what is read and the kind of what is written, with a space between.
abbrev pub kinds_line : Row → List ℕ
kinds_line r = r.name ++ codes " " ++ word_or_dash read_word r.reads ++ codes " " ++ word_or_dash write_word r.writes ++ codes "\n"

-- The lines of all rows of the profile, in their order.
unfoldable pub kinds_lines : Profile → List (List ℕ)
kinds_lines profile = map kinds_line (rows profile)
