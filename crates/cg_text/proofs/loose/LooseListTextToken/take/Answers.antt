use Rattle.std.proofs.Common.{[]}
use Rattle.cg_text.proofs.loose.LooseListTextToken.take.Goals as goal

pub join-requires : goal.join-requires
join-requires c = rw c.into_vec-ranges.ensures (c.args.self.sound [] c.take.result c.take.ensures.value)
