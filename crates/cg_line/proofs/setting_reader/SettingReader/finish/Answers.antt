use Rattle.std.proofs.Common.{refl}
use Rattle.cg_write.specs.contracts.any_write.AnyWriteToken.TheImpl.{ghosts}
use Rattle.cg_line.specs.RestsLaws.{value_is, whole_is}
use Rattle.cg_line.specs.SettingReads.{is_setting_reads}
use Rattle.cg_line.proofs.setting_reader.SettingReader.finish.Goals as goal

pub returns-then-can_end : goal.returns-then-can_end
returns-then-can_end c kind taken h = (value_is (is_setting_reads c.args.self kind taken h) c.take.result).0 c.take.ensures.value

pub returns-else-can_end : goal.returns-else-can_end
returns-else-can_end c kind taken h =
    let text = c.args.self.text in
    let whole = whole_is (is_setting_reads c.args.self kind taken h) (ghosts.ends text) c.can_end.result (ghosts.ends_is text) c.can_end.ensures in
    (refl, λ write. (let ends = whole.1 write in let not = c.if-can_end.false in cc))
