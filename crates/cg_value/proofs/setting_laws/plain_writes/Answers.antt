use Rattle.cg_value.specs.PlainWriteLaws.{written_raw}
use Rattle.cg_value.proofs.setting_laws.plain_writes.Goals as goal

pub returns : goal.returns
returns c = written_raw
