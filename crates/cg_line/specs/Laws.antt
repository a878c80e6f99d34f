-- The laws of readers: what they took can be gone on from, and how much they hold.
use Rattle.std.specs.Prelude.{ℕ, ◌+◌, ◌≤◌, List, ◌++◌, length}
use Rattle.cg_text.specs.Texts.{Lacks, Viable}
use Rattle.cg_value.specs.Files.{KindFile, ReadLines}
use Rattle.cg_value.specs.Held.{held_of_lines}
use Rattle.cg_value.specs.Lines.{unlines}
use Rattle.cg_value.specs.Settings.{KindWrite}
use Rattle.cg_value.specs.declared.kind.ReadForm.{ReadForm}
use Rattle.cg_value.specs.declared.kind.WriteForm.{WriteForm}
use Rattle.cg_value.specs.declared.value.Value.{Value}
use Rattle.cg_line.specs.Reads.{Reads, held_by}
use Rattle.cg_line.specs.SettingReads.{SettingReads, held_of}
use Rattle.cg_line.specs.declared.reader.ValueReader.{ValueReader}
use Rattle.cg_line.specs.declared.setting_reader.SettingReader.{SettingReader}

-- With the bytes that a reader took some file of its kind begins.
abbrev pub FileTaken : Type 0
FileTaken = (r : ValueReader) (kind : ReadForm) (taken : List ℕ) → Reads r kind taken → Viable (KindFile kind) taken

-- And of a write, some write of its kind.
abbrev pub WriteTaken : Type 0
WriteTaken = (r : SettingReader) (kind : WriteForm) (taken : List ℕ) → SettingReads r kind taken → Viable (KindWrite kind) taken

-- A reader holds no more than its bytes, and no more than the line that is begun and what its whole lines may.
abbrev pub FileHeld : Type 0
FileHeld = (r : ValueReader) (kind : ReadForm) (taken : List ℕ) → Reads r kind taken → held_by r ≤ length taken

abbrev pub FileLinesHeld : Type 0
FileLinesHeld = (r : ValueReader) (kind : ReadForm) (lines : List (List ℕ)) (line : List ℕ) (v : Value) →
    Reads r kind (unlines lines ++ line) → Lacks 10 line → ReadLines kind v lines → held_by r ≤ held_of_lines v lines + length line

-- A reader of a write holds no more than its bytes.
abbrev pub WriteHeld : Type 0
WriteHeld = (r : SettingReader) (kind : WriteForm) (taken : List ℕ) → SettingReads r kind taken → held_of r ≤ length taken
