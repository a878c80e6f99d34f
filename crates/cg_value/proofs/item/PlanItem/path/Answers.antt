use Rattle.std.proofs.Common.{ap}
use Rattle.cg_value.specs.EntryLaws.{item_path}
use Rattle.cg_value.proofs.item.PlanItem.path.Goals as goal

pub returns-clause-good : goal.returns-clause-good
returns-clause-good c = rw c.as_slice.ensures.value (rw (ap (λ e. e.path) c.self.view_is) (item_path c.args.self.now))
