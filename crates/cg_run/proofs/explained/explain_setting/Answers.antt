use Rattle.std.proofs.Common.{◌≡◌, None, List, ℕ}
use Rattle.cg_text.specs.Texts.{TextOf}
use Rattle.cg_line.specs.DecodeLaws.{texts_as}
use Rattle.cg_line.specs.DecodeWriteLaws.{kind_writes}
use Rattle.cg_line.specs.SettingReads.{WritesOf}
use Rattle.cg_value.specs.Settings.{SettingText, Write}
use Rattle.cg_value.specs.Table.{write_form_of}
use Rattle.cg_value.specs.declared.setting.Setting.{Setting}
use Rattle.cg_source.proofs.Explaining.{explained_as}
use Rattle.cg_run.proofs.explained.explain_setting.Goals as goal

pub returns-in-Ok : goal.returns-in-Ok
returns-in-Ok c =
    let profile = c.args.profile in
    let name = c.args.name.now in
    let kind = c.in-Ok.kind in
    let same = texts_as (WritesOf kind) (λ (t : List ℕ) (s : Setting). SettingText profile name s t) (kind_writes profile name kind c.in-Ok.ensures.writable) in
    explained_as (TextOf (WritesOf kind)) (Write profile name) same name c.args.bytes.now (write_form_of profile name ≡ None) c.explain_text.result
    (c.explain_text.ensures kind c.new-reader.ensures.takes)
