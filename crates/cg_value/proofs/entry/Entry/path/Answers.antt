use Rattle.std.proofs.Common.{ap}
use Rattle.cg_value.specs.EntryLaws.{entry_path}
use Rattle.cg_value.proofs.entry.Entry.path.Goals as goal

pub returns-clause-good : goal.returns-clause-good
returns-clause-good c = rw c.as_slice.ensures.value (rw (ap (λ e. e.path) c.self.view_is) (entry_path c.args.self.now))
