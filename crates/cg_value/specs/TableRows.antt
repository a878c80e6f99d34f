-- The rows of the code's table.
use Rattle.std.specs.Prelude.{◌≡◌, ℕ, Bool, true, false, ◌&&◌, List, [], ◌∷◌, Option, Some, None, is_none, if◌then◌else◌, slice_index_or, map, max, length, take}
use Rattle.std.specs.Str.{bytes_eq}
use Rattle.cg_value.specs.Table.{Row as DefinedRow, row, rows}
use Rattle.cg_value.specs.declared.kind.ReadForm.{ReadForm}
use Rattle.cg_value.specs.declared.kind.ReadForm.TheVariants as read
use Rattle.cg_value.specs.declared.kind.WriteForm.{WriteForm}
use Rattle.cg_value.specs.declared.kind.WriteForm.TheVariants as write
use Rattle.cg_value.specs.declared.profile.Profile.{Profile}
use Rattle.cg_value.specs.declared.profile.Profile.TheVariants.{One, Two, Kernel}
use Rattle.cg_value.specs.declared.table.Forms.{Forms}
use Rattle.cg_value.specs.declared.table.Row.{Row}
use Rattle.cg_value.specs.declared.table.TableRow.{TableRow}

-- What a row says.
abbrev pub forms_of : Row → Forms
forms_of r = record { reads = r.reads; writes = r.writes }

-- What the first row of the name says.
abbrev pub found_in : List Row → List ℕ → Option Forms
found_in [] name = None
found_in (r ∷ rs) name = if bytes_eq r.name.now name then Some (forms_of r) else found_in rs name

-- The same of the row's name that a file's name has, if it may have one.
abbrev pub found_by : List Row → Option (List ℕ) → Option Forms
found_by rs None = None
found_by rs (Some name) = found_in rs name

-- Whether each name stands in one row.
abbrev pub stand_once : List Row → Bool
stand_once [] = true
stand_once (r ∷ rs) = is_none (found_in rs r.name.now) && stand_once rs

-- The rows that the profile has of all.
abbrev pub rows_in : Profile → List Row → List Row
rows_in One rs = take 60 rs
rows_in Two rs = take 60 rs
rows_in Kernel rs = rs

-- What stands in profile 2 for a form of the kernel profile.
abbrev pub read_before : ReadForm → ReadForm
read_before (read.DeviceStats kernel) = read.DeviceStats false
read_before (read.DeviceLimits kernel) = read.DeviceLimits false
read_before (read.DeviceWeights most kernel) = read.DeviceWeights most false
read_before (read.DeviceTargets kernel) = read.DeviceTargets false
read_before form = form

-- What stands in a profile for a form of the kernel profile.
abbrev pub read_in : Profile → ReadForm → ReadForm
read_in One (read.Set most) = read.Set 65535
read_in One read.Nested = read.Raw
read_in One form = read_before form
read_in Two form = read_before form
read_in Kernel form = form

abbrev pub write_in : Profile → WriteForm → WriteForm
write_in One (write.Set most) = write.Set 65535
write_in One (write.Reclaim max) = write.Reclaim false
write_in One form = form
write_in Two (write.Reclaim max) = write.Reclaim false
write_in Two form = form
write_in Kernel form = form

-- The rows of the code's table, as they are in the definition: it has those of the kernel profile.
abbrev pub table_row : Row → DefinedRow
table_row r = record { name = r.name.now; reads = r.reads; writes = r.writes }

abbrev pub IsTable : List Row → Type 0
IsTable rs = map table_row rs ≡ rows Kernel

-- The row at a place of the profile; and as it is told.
abbrev pub row_at : Profile → ℕ → DefinedRow
row_at profile place = slice_index_or (rows profile) place (row [] None None)

abbrev pub row_told : TableRow → DefinedRow
row_told r = record { name = r.name.now; reads = r.reads; writes = r.writes }

-- The length of the longest of the names.
abbrev pub longest : List DefinedRow → ℕ
longest [] = 0
longest (r ∷ rs) = max (length r.name) (longest rs)
