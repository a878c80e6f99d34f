use Rattle.std.proofs.Common.{ap}
use Rattle.cg_value.specs.EntryLaws.{entry_has_line}
use Rattle.cg_value.proofs.entry.Entry.value.Goals as goal

pub returns-clause-some_line : goal.returns-clause-some_line
returns-clause-some_line c = rw (ap (λ e. e.value) c.self.view_is) (entry_has_line c.args.self.now)
