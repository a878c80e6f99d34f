-- What a reader took.
use Rattle.std.proofs.Common.{◌≡◌, ℕ, List, ◌∷◌, ◌++◌, [], Result, append-nil}
use Rattle.cg_text.specs.Texts.{Next, Viable}
use Rattle.cg_value.specs.Files.{KindText, KindFile}
use Rattle.cg_value.specs.FirstLineLaws.{first_line}
use Rattle.cg_value.specs.Held.{held_of_value}
use Rattle.cg_value.specs.Kind.{IsReadForm}
use Rattle.cg_value.specs.declared.kind.ReadForm.{ReadForm}
use Rattle.cg_value.specs.declared.value.Value.{Value}
use Rattle.cg_line.specs.Rests.{Leaves}
use Rattle.cg_line.specs.OpenReads.{OpenReads, is_open_reads, open_held}
use Rattle.cg_line.specs.declared.push.PushFault.{PushFault}
use Rattle.cg_line.specs.declared.reader.State.{State}
use Rattle.cg_line.specs.declared.reader.State.TheVariants as state
use Rattle.cg_line.specs.declared.reader.ValueReader.{ValueReader}

-- The bytes are a file of the kind with the value, one line with which no longer file of the kind begins.
pub record IsWholeFile (kind : ReadForm) (v : Value) (taken : List ℕ) : Type 0 where
  pub text : KindText kind v taken
  pub front : List ℕ
  pub ends : taken ≡ front ++ 10 ∷ []
  pub last : (byte : ℕ) → Next (KindFile kind) taken byte → ⊥

-- The state is that of a reader of this kind that took these bytes.
abbrev pub IsState : State → ReadForm → List ℕ → Type 0
IsState (state.New alloc k) kind taken = (k ≡ kind) × (taken ≡ [])
IsState (state.Whole file) kind taken = IsWholeFile kind file.value taken
IsState (state.Open reader) kind taken = OpenReads reader.value kind taken

abbrev pub state_held : State → ℕ
state_held (state.New alloc k) = 0
state_held (state.Whole file) = held_of_value file.value
state_held (state.Open reader) = open_held reader.value

pub record HasRead (r : ValueReader) (kind : ReadForm) (taken : List ℕ) : Type 0 where
  pub state : IsState r.state kind taken
  pub form : IsReadForm kind

-- The reader is of this kind and took these bytes, with which some file of the kind begins.
unfoldable pub Reads : ValueReader → ReadForm → List ℕ → Type 0
Reads r kind taken = HasRead r kind taken

-- The sum of the lengths of its vectors.
unfoldable pub held_by : ValueReader → ℕ
held_by r = state_held r.state

-- What a pushed byte leaves.
abbrev pub IsPushed : ValueReader → ReadForm → List ℕ → ℕ → Result Unit PushFault → Type 0
IsPushed r kind taken byte result = Leaves (Reads r kind) (KindFile kind) taken byte result

pub reads_is : (r : ValueReader) (kind : ReadForm) (taken : List ℕ) → HasRead r kind taken → Reads r kind taken
unfolding Reads
reads_is r kind taken h = h

pub is_reads : (r : ValueReader) (kind : ReadForm) (taken : List ℕ) → Reads r kind taken → HasRead r kind taken
unfolding Reads
is_reads r kind taken h = h

state_viable : (s : State) (kind : ReadForm) (taken : List ℕ) → IsReadForm kind → IsState s kind taken → Viable (KindFile kind) taken
state_viable (state.New alloc k) kind taken form h = let line = first_line kind form in rw h.1 (record { rest = line.0 ++ 10 ∷ []; whole = line.1.file })
state_viable (state.Whole file) kind taken form h = record { rest = []; whole = (file.value, rw (append-nil taken) h.text) }
state_viable (state.Open reader) kind taken form h = (is_open_reads reader.value kind taken h).read.viable

pub reads_viable : (r : ValueReader) (kind : ReadForm) (taken : List ℕ) → Reads r kind taken → Viable (KindFile kind) taken
reads_viable r kind taken h = let read = is_reads r kind taken h in state_viable r.state kind taken read.form read.state
