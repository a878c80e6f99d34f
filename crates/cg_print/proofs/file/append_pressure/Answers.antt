use Rattle.std.proofs.Common.{arith, codes}
use Rattle.cg_value.specs.Print.{print_pressure_line}
use Rattle.std.proofs.lemmas.Grind.{common_steps}
use Rattle.cg_print.specs.JoinedLaws.{headed_append}
use Rattle.cg_print.proofs.file.append_pressure.Goals as goal

pub returns : goal.returns
returns c = rw (headed_append c.args.head.now (print_pressure_line (codes "some") c.args.some) (print_pressure_line (codes "full") c.args.full)) (grind (arith, common_steps))
