use Rattle.std.proofs.Common.{refl}
use Rattle.cg_value.specs.TableLaws.{found_short}
use Rattle.cg_value.proofs.table.table_row.Goals as goal

pub row_at-requires : goal.row_at-requires
row_at-requires c = refl

pub returns-clause-short : goal.returns-clause-short
returns-clause-short c = found_short c.row_at.result c.args.profile c.args.place c.row_at.ensures
