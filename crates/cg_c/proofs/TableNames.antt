-- The names of the rows of the first two profiles.
use Rattle.std.proofs.Common.{◌≡◌, ℕ, List, Option, Some, None, refl}
use Rattle.cg_value.specs.RowName.{row_name}
use Rattle.cg_value.specs.Table.{has_row, is_named, rows}
use Rattle.cg_value.specs.declared.profile.Profile.TheVariants.{One, Two}

named_alike : (name : Option (List ℕ)) → is_named (rows One) name ≡ is_named (rows Two) name
named_alike None = refl
named_alike (Some name) = refl

-- They are the same.
pub rows_alike : (name : List ℕ) → has_row One name ≡ has_row Two name
unfolding has_row
rows_alike name = named_alike (row_name name)
