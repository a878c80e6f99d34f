-- The words of the kinds of a file.
use Rattle.std.specs.Prelude.{ℕ, List, Bool, true, false, Option, option_map}
use Rattle.cg_value.specs.Kind.{read_word, write_word}
use Rattle.cg_value.specs.Table.{read_form_of, write_form_of}
use Rattle.cg_value.specs.declared.profile.Profile.{Profile}

-- The word of what is written to a file of the name, or of what is read of it; none where it can't be.
abbrev pub kind_word : Profile → List ℕ → Bool → Option (List ℕ)
kind_word profile name true = option_map write_word (write_form_of profile name)
kind_word profile name false = option_map read_word (read_form_of profile name)
