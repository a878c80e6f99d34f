use Rattle.std.proofs.Common.{◌≡◌, ◌++◌, codes, drop}
use Rattle.cg_value.specs.TableRows.{found_in}
use Rattle.cg_value.proofs.table.search_sized.Given as goal

abbrev pub invariant-loop-row : goal.invariant-loop-row
invariant-loop-row l = found_in l.rows (codes "hugetlb.*" ++ l.rest) ≡ found_in (drop l.row-index l.rows) (codes "hugetlb.*" ++ l.rest)
