-- What a run of bytes leaves of a reader.
use Rattle.std.specs.Prelude.{◌≡◌, ℕ, ◌<◌, ◌⊎◌, List, [], ◌∷◌, ◌++◌, length, take, get_or, Option, Some, None}
use Rattle.cg_text.specs.Texts.{Lacks, Next}
use Rattle.cg_value.specs.Files.{KindFile}
use Rattle.cg_value.specs.declared.kind.ReadForm.{ReadForm}
use Rattle.cg_line.specs.declared.push.PushFault.{PushFault}
use Rattle.cg_line.specs.declared.push.PushFault.TheVariants.{Refused, OutOfMemory}
use Rattle.cg_line.specs.Reads.{Reads}
use Rattle.cg_line.specs.declared.reader.PushedRun.{PushedRun}
use Rattle.cg_line.specs.declared.reader.ValueReader.{ValueReader}

-- So many bytes are all where none is a newline, or end with the first one.
abbrev pub EndsLine : List ℕ → ℕ → Type 0
EndsLine bytes used = ((used ≡ length bytes) × Lacks 10 bytes) ⊎ ((line : List ℕ) × (take used bytes ≡ line ++ 10 ∷ []) × Lacks 10 line)

-- Where a run of bytes of a text of the set ends, so many of which were taken: where no byte is left, or after its first
-- newline; or before it at a byte with which no text of the set goes on, or with which one does and memory was refused.
abbrev pub StopsAt : (List ℕ → Type 0) → List ℕ → List ℕ → ℕ → Option PushFault → Type 0
StopsAt L taken bytes used None = EndsLine bytes used
StopsAt L taken bytes used (Some Refused) = (used < length bytes) × Lacks 10 (take used bytes) × (Next L (taken ++ take used bytes) (get_or bytes used 0) → ⊥)
StopsAt L taken bytes used (Some OutOfMemory) = (used < length bytes) × Lacks 10 (take used bytes) × Next L (taken ++ take used bytes) (get_or bytes used 0)

-- Where a run of bytes of a file of the kind ends.
abbrev pub RunStops : ReadForm → List ℕ → List ℕ → ℕ → Option PushFault → Type 0
RunStops kind = StopsAt (KindFile kind)

-- The bytes that were taken, and why no more were, where R tells which bytes were taken.
pub record LeavesRun (R L : List ℕ → Type 0) (taken bytes : List ℕ) (run : PushedRun) : Type 0 where
  pub reads : R (taken ++ take run.used bytes)
  pub stops : StopsAt L taken bytes run.used run.fault

abbrev pub IsPushedRun : ValueReader → ReadForm → List ℕ → List ℕ → PushedRun → Type 0
IsPushedRun r kind taken bytes run = LeavesRun (Reads r kind) (KindFile kind) taken bytes run
