use Rattle.cg_write.specs.contracts.any_write.AnyWriteToken.TheImpl.{ghosts}
use Rattle.cg_line.specs.RestsLaws.{new_read}
use Rattle.cg_line.specs.SettingReads.{SettingReads, WritesOf}
use Rattle.cg_line.proofs.setting_reader.SettingReader.new.Goals as goal

pub returns-clause-takes : goal.returns-clause-takes
unfolding SettingReads
returns-clause-takes c = new_read ghosts.means ghosts.size (WritesOf c.args.kind) c.new.result c.new.ensures.spells (ghosts.completes c.new.result) c.new.ensures.size
