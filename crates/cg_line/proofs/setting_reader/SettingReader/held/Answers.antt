use Rattle.cg_line.specs.ReaderHeldLaws.{takes_few}
use Rattle.cg_line.proofs.setting_reader.SettingReader.held.Goals as goal

pub returns-clause-most : goal.returns-clause-most
returns-clause-most c kind taken h = takes_few c.args.self.now kind taken h
