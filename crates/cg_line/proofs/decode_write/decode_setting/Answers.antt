use Rattle.std.proofs.Common.{ℕ, List}
use Rattle.cg_value.specs.Settings.{SettingText}
use Rattle.cg_value.specs.declared.setting.Setting.{Setting}
use Rattle.cg_write.specs.contracts.any_write.AnyWriteToken.TheImpl.{ghosts}
use Rattle.cg_line.specs.DecodeLaws.{read_as}
use Rattle.cg_line.specs.DecodeWriteLaws.{kind_writes}
use Rattle.cg_line.specs.SettingReads.{WritesOf}
use Rattle.cg_line.proofs.decode_write.decode_setting.Goals as goal

pub returns-in-Err-read_all : goal.returns-in-Err-read_all
returns-in-Err-read_all c =
    let profile = c.args.profile in
    let name = c.args.name.now in
    let kind = c.in-Ok.kind in
    let bytes = c.args.bytes.now in
    let of_kind = read_as (ghosts.means c.new.result) (WritesOf kind) c.new.ensures.spells.is bytes c.read_all.result c.read_all.ensures in
    let of_name = read_as (WritesOf kind) (λ (t : List ℕ) (s : Setting). SettingText profile name s t) (kind_writes profile name kind c.in-Ok.ensures.writable) bytes c.read_all.result of_kind in
    c.setting_fault.ensures profile name bytes (rw c.in-Err-read_all.is at of_name)
