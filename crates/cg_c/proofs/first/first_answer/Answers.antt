use Rattle.std.proofs.Common.{subst}
use Rattle.cg_first.specs.First.{IsFirst}
use Rattle.cg_c.specs.First.{limits}
use Rattle.cg_c.proofs.Firsts.{of_entry}
use Rattle.cg_c.proofs.first.first_answer.Goals as goal

pub returns-in-Ok-Entry : goal.returns-in-Ok-Entry
returns-in-Ok-Entry c = of_entry c.args.profile c.args.bytes.now c.args.is_end c.args.is_json c.in-Ok-Entry.entry c.in-Ok-Entry.taken
    (subst (λ first. IsFirst c.args.profile limits c.args.bytes.now c.args.is_end first) c.in-Ok-Entry.field-0-is c.in-Ok-Entry.ensures)
    c.entry_answer.result c.entry_answer.ensures
