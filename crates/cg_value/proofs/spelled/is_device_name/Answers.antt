use Rattle.cg_value.specs.SpelledLaws.{gone_text}
use Rattle.cg_value.proofs.spelled.is_device_name.Goals as goal

pub returns-in-None : goal.returns-in-None
returns-in-None c = rw c.in-None.is (gone_text c.args.unknown)
