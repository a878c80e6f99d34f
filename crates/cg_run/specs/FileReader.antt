-- What a reader of one file took, and what it holds of that.
use Rattle.std.proofs.Common.{◌≡◌, ◌↔◌, ◌≤◌, ◌<◌, ℕ, Bool, true, false, List, ◌++◌, length, drop, sym, subst, append_assoc}
use Rattle.cg_text.specs.Texts.{Viable}
use Rattle.cg_value.specs.Files.{KindFile}
use Rattle.cg_value.specs.declared.kind.ReadForm.{ReadForm}
use Rattle.cg_value.specs.declared.kind.ReadForm.TheVariants as form
use Rattle.cg_line.specs.Reads.{Reads, held_by, reads_viable}
use Rattle.cg_run.specs.declared.file_reader.FileReader.{FileReader}

-- Files of the kind with these bytes in front are what they are without them. So what the bytes spell needn't be known any more.
pub record IsLetGo (kind : ReadForm) (front : List ℕ) : Type 0 where
  pub same : (rest : List ℕ) → KindFile kind rest ↔ KindFile kind (front ++ rest)

-- The lines of the kind's files don't depend on one another: a file can be let go of at the end of any of them.
pub record HasLinesAlone (kind : ReadForm) : Type 0 where
  pub let_go : (text : List ℕ) → KindFile kind text → IsLetGo kind text

-- The kinds whose files are lines of one relation each, in any number. They have lines alone.
abbrev pub lines_alone : ReadForm → Bool
lines_alone (form.Numbers lo hi) = true
lines_alone (form.DeviceStats kernel) = true
lines_alone (form.DeviceLimits kernel) = true
lines_alone (form.DeviceTargets kernel) = true
lines_alone form.DeviceParams = true
lines_alone form.Raw = true
lines_alone _ = false

-- The bytes are kept. What those in front spell was let go of, and the reader took the others: it holds no more than they are.
pub record HasKept (s : FileReader) (kind : ReadForm) (taken : List ℕ) : Type 0 where
  pub front : List ℕ
  pub back : List ℕ
  pub parts : taken ≡ front ++ back
  pub count : length front ≡ s.before
  pub let_go : IsLetGo kind front
  pub reads : Reads s.reader kind back
  pub held : held_by s.reader ≤ length back
  pub of_kind : s.kind ≡ kind
  pub text : s.text.items ≡ taken

-- The bytes that were taken since those let go of.
abbrev pub since : FileReader → List ℕ → List ℕ
since s taken = drop s.before taken

-- What was taken since is to be let go of too: it is 16 KiB at least, and whole lines that don't depend on one another.
pub record IsDue (s : FileReader) (kind : ReadForm) (taken : List ℕ) : Type 0 where
  pub enough : 16384 ≤ length (since s taken)
  pub alone : lines_alone kind ≡ true
  pub whole : KindFile kind (since s taken)

-- However many lines the bytes begin with, these are less than 16 KiB.
abbrev pub HasFewLines : ReadForm → List ℕ → Type 0
HasFewLines kind bytes = (lines rest : List ℕ) → bytes ≡ lines ++ rest → KindFile kind lines → length lines < 16384

-- The bytes are kept, and of lines that don't depend on one another little is held: less than 16 KiB of whole lines were taken
-- since those let go of, and behind them what has come of one more line.
pub record IsSettled (s : FileReader) (kind : ReadForm) (taken : List ℕ) : Type 0 where
  pub kept : HasKept s kind taken
  pub few : lines_alone kind ≡ true → HasFewLines kind (since s taken)

-- What goes on with the bytes behind goes on with all of them.
pub viable_behind : (kind : ReadForm) (front back : List ℕ) → IsLetGo kind front → Viable (KindFile kind) back → Viable (KindFile kind) (front ++ back)
viable_behind kind front back go h = record { rest = h.rest; whole = subst (KindFile kind) (sym (append_assoc front back h.rest)) ((go.same (back ++ h.rest)).0 h.whole) }

pub kept_viable : (s : FileReader) (kind : ReadForm) (taken : List ℕ) → HasKept s kind taken → Viable (KindFile kind) taken
kept_viable s kind taken h = subst (Viable (KindFile kind)) (sym h.parts) (viable_behind kind h.front h.back h.let_go (reads_viable s.reader kind h.back h.reads))

pub settled_viable : (s : FileReader) (kind : ReadForm) (taken : List ℕ) → IsSettled s kind taken → Viable (KindFile kind) taken
settled_viable s kind taken h = kept_viable s kind taken h.kept
