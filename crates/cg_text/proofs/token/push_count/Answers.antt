use Rattle.cg_text.specs.PushLaws.{run_used, used_within}
use Rattle.cg_text.proofs.token.push_count.Goals as goal

pub returns-clause-within : goal.returns-clause-within
returns-clause-within g c = rw c.used.ensures (used_within c.args.bytes.now c.push.result c.push.ensures.within)

pub returns-clause-follows : goal.returns-clause-follows
returns-clause-follows g c = rw (c.used.ensures, ← run_used c.args.bytes.now c.push.result) c.push.ensures.follows
