-- What becomes of the bytes of a write.
use Rattle.std.specs.Prelude.{◌≡◌, ℕ, List, None, Result, Ok, Err}
use Rattle.cg_text.specs.Texts.{FirstBad}
use Rattle.cg_value.specs.Settings.{SettingText, Write}
use Rattle.cg_value.specs.Table.{write_form_of}
use Rattle.cg_value.specs.declared.profile.Profile.{Profile}
use Rattle.cg_value.specs.declared.setting.Setting.{Setting}
use Rattle.cg_line.specs.Decode.{IsCut, IsStarved}
use Rattle.cg_line.specs.declared.decode_write.SettingFault.{SettingFault}
use Rattle.cg_line.specs.declared.decode_write.SettingFault.TheVariants.{NotWritable, Refused, Cut, OutOfMemory}

-- The bytes are a write of the name with the setting; or it's told why they are none, or that none of the name can be written.
abbrev pub IsWriteDecoded : Profile → List ℕ → List ℕ → Result Setting SettingFault → Type 0
IsWriteDecoded profile name bytes (Ok s) = SettingText profile name s bytes
IsWriteDecoded profile name bytes (Err NotWritable) = write_form_of profile name ≡ None
IsWriteDecoded profile name bytes (Err (Refused at)) = FirstBad (Write profile name) bytes at
IsWriteDecoded profile name bytes (Err (Cut at)) = IsCut (Write profile name) bytes at
IsWriteDecoded profile name bytes (Err OutOfMemory) = IsStarved (Write profile name) bytes
