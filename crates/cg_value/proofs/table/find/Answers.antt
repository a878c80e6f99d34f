use Rattle.cg_value.specs.TableLaws.{once_in}
use Rattle.cg_value.proofs.table.find.Goals as goal

pub find_sized-requires : goal.find_sized-requires
find_sized-requires c = rw c.rows_in-rows.ensures (once_in c.args.profile c.args.rows.now c.requires.once)

pub find_row-requires : goal.find_row-requires
find_row-requires c = rw c.rows_in-rows.ensures (once_in c.args.profile c.args.rows.now c.requires.once)
