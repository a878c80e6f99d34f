-- What becomes of a byte that was not taken, and of a reader that is taken apart.
use Rattle.std.specs.Prelude.{◌≡◌, ℕ, List, Result, Ok, Err}
use Rattle.cg_text.specs.Texts.{Next}
use Rattle.cg_value.specs.Files.{KindText, KindFile}
use Rattle.cg_value.specs.declared.kind.ReadForm.{ReadForm}
use Rattle.cg_value.specs.declared.value.Value.{Value}
use Rattle.cg_line.specs.declared.push.PushFault.{PushFault}
use Rattle.cg_line.specs.declared.push.PushFault.TheVariants.{Refused, OutOfMemory}
use Rattle.cg_line.specs.declared.reader.State.{State}

-- Why no file of the kind went on with the byte: none does; or one does, and memory was refused.
abbrev pub IsPushFault : ReadForm → List ℕ → ℕ → PushFault → Type 0
IsPushFault kind taken byte Refused = Next (KindFile kind) taken byte → ⊥
IsPushFault kind taken byte OutOfMemory = Next (KindFile kind) taken byte

-- The value of the file that the bytes are; or they are none, and the state is as it was.
abbrev pub IsFinished : ReadForm → List ℕ → State → Result Value State → Type 0
IsFinished kind taken state (Ok v) = KindText kind v taken
IsFinished kind taken state (Err left) = (left ≡ state) × (KindFile kind taken → ⊥)
