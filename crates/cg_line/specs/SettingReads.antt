-- What a reader of one write took.
use Rattle.std.specs.Prelude.{ℕ, List, ◌++◌, take, Result}
use Rattle.cg_text.specs.Texts.{Viable}
use Rattle.cg_value.specs.Settings.{WriteText, KindWrite}
use Rattle.cg_value.specs.declared.kind.WriteForm.{WriteForm}
use Rattle.cg_value.specs.declared.setting.Setting.{Setting}
use Rattle.cg_line.specs.Rests.{IsRead, Leaves}
use Rattle.cg_line.specs.Runs.{StopsAt}
use Rattle.cg_line.specs.declared.push.PushFault.{PushFault}
use Rattle.cg_line.specs.declared.reader.PushedRun.{PushedRun}
use Rattle.cg_line.specs.declared.setting_reader.SettingReader.{SettingReader}
use Rattle.cg_write.specs.contracts.any_write.AnyWriteToken.TheImpl.{ghosts}

-- The writes of the kind, each with its setting.
abbrev pub WritesOf : WriteForm → List ℕ → Setting → Type 0
WritesOf kind text s = WriteText kind s text

-- The reader is of this kind and took these bytes, with which some write of the kind begins.
unfoldable pub SettingReads : SettingReader → WriteForm → List ℕ → Type 0
SettingReads r kind taken = IsRead (WritesOf kind) 0 (ghosts.means r.text) (ghosts.size r.text) taken

-- The sum of the lengths of its vectors.
unfoldable pub held_of : SettingReader → ℕ
held_of r = ghosts.size r.text

-- What a pushed byte leaves.
abbrev pub IsBytePushed : SettingReader → WriteForm → List ℕ → ℕ → Result Unit PushFault → Type 0
IsBytePushed r kind taken byte result = Leaves (SettingReads r kind) (KindWrite kind) taken byte result

-- The bytes of a run that were taken, and why no more were.
pub record IsRunPushed (r : SettingReader) (kind : WriteForm) (taken bytes : List ℕ) (run : PushedRun) : Type 0 where
  pub takes : SettingReads r kind (taken ++ take run.used bytes)
  pub stops : StopsAt (KindWrite kind) taken bytes run.used run.fault

pub is_setting_reads : (r : SettingReader) (kind : WriteForm) (taken : List ℕ) → SettingReads r kind taken → IsRead (WritesOf kind) 0 (ghosts.means r.text) (ghosts.size r.text) taken
unfolding SettingReads
is_setting_reads r kind taken h = h

pub setting_reads_viable : (r : SettingReader) (kind : WriteForm) (taken : List ℕ) → SettingReads r kind taken → Viable (KindWrite kind) taken
setting_reads_viable r kind taken h = (is_setting_reads r kind taken h).viable
