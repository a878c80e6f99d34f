use Rattle.std.proofs.Common.{arith}
use Rattle.std.proofs.lemmas.Grind.{common_steps}
use Rattle.cg_print.specs.JoinedLaws.{headed_mapped}
use Rattle.cg_print.proofs.canonical.append_lines.Goals as goal

pub returns : goal.returns
returns g c = rw (headed_mapped c.args.head.now g.T.Canonical.printed c.args.lines.now) (grind (arith, common_steps))
