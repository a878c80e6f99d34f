use Rattle.std.proofs.Common.{rules}
use Rattle.cg_print.specs.JoinedLaws.{set_is}
use Rattle.cg_print.proofs.tokens.NumberSetCanonical.append_to.Goals as goal

pub returns : goal.returns
returns c = rw (← set_is c.args.self.now) (search rules)
