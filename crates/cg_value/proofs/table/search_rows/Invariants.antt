use Rattle.std.proofs.Common.{◌≡◌, drop}
use Rattle.cg_value.specs.TableRows.{found_in}
use Rattle.cg_value.proofs.table.search_rows.Given as goal

abbrev pub invariant-loop-row : goal.invariant-loop-row
invariant-loop-row l = found_in l.rows l.name ≡ found_in (drop l.row-index l.rows) l.name
