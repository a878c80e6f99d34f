-- What a reader's state says of what it took.
use Rattle.std.proofs.Common.{◌≡◌, ℕ, ◌<◌, ◌≤◌, List, [], ◌∷◌, ◌++◌, suc, zero, length, take, get_or, Ok, Err, ap, subst, arith, Result}
use Rattle.cg_text.specs.Texts.{Next, Viable}
use Rattle.cg_value.specs.Files.{KindFile}
use Rattle.cg_value.specs.declared.kind.ReadForm.{ReadForm}
use Rattle.cg_value.specs.declared.value.Value.{Value}
use Rattle.cg_line.specs.Begun.{IsPushFault}
use Rattle.cg_line.specs.Place.{TakesLine}
use Rattle.cg_line.specs.PlaceLaws.{next_where_takes}
use Rattle.cg_line.specs.Reads.{IsState, IsWholeFile, Reads, held_by, is_reads, reads_is, state_held}
use Rattle.cg_line.specs.Rests.{Leaves}
use Rattle.cg_line.specs.declared.push.PushFault.{PushFault}
use Rattle.cg_line.specs.declared.push.PushFault.TheVariants.{Refused, OutOfMemory}
use Rattle.cg_line.specs.declared.reader.State.{State}
use Rattle.cg_line.specs.declared.reader.ValueReader.{ValueReader}

-- What is known of a reader's state.
pub state_of : (r : ValueReader) (s : State) (kind : ReadForm) (taken : List ℕ) → r.state ≡ s → Reads r kind taken → IsState s kind taken
state_of r s kind taken e h = subst (λ (q : State). IsState q kind taken) e (is_reads r kind taken h).state

-- Another state of a reader.
pub reads_on : (r new : ValueReader) (kind : ReadForm) (taken now : List ℕ) → Reads r kind taken → IsState new.state kind now → Reads new kind now
reads_on r new kind taken now h s = reads_is new kind now (record { state = s; form = (is_reads r kind taken h).form })

-- The first of some bytes with which a text of the set begins can come first.
pub first_next : (L : List ℕ → Type 0) (bytes : List ℕ) (used : ℕ) → 0 < used → used ≤ length bytes → Viable L (take used bytes) → Next L [] (get_or bytes 0 0)
first_next L [] used some within h = absurd (omega (arith, some, within))
first_next L (x ∷ xs) zero some within h = absurd (omega (arith, some))
first_next L (x ∷ xs) (suc k) some within h = record { rest = take k xs ++ h.rest; whole = h.whole }

-- After a whole file of one line no other line comes.
pub takes_none : (kind : ReadForm) (v : Value) (taken : List ℕ) → IsWholeFile kind v taken → TakesLine kind taken → ⊥
takes_none kind v taken h takes = let some = next_where_takes kind taken takes in h.last some.byte some.next

-- How much is held, by the state.
pub held_is : (r : ValueReader) (s : State) → r.state ≡ s → held_by r ≡ state_held s
unfolding held_by
held_is r s e = ap state_held e

-- ---- What a byte leaves

-- Why it was not taken.
pub fault_is : (R : List ℕ → Type 0) (kind : ReadForm) (taken : List ℕ) (byte : ℕ) (fault : PushFault) → Leaves R (KindFile kind) taken byte (Err fault) → IsPushFault kind taken byte fault
fault_is R kind taken byte Refused h = h.1
fault_is R kind taken byte OutOfMemory h = h.1

pub fault_leaves : (R : List ℕ → Type 0) (kind : ReadForm) (taken : List ℕ) (byte : ℕ) (fault : PushFault) → R taken → IsPushFault kind taken byte fault → Leaves R (KindFile kind) taken byte (Err fault)
fault_leaves R kind taken byte Refused r h = (r, h)
fault_leaves R kind taken byte OutOfMemory r h = (r, h)

-- What follows from which bytes were taken.
pub leaves_on : (R Q : List ℕ → Type 0) (kind : ReadForm) (taken : List ℕ) (byte : ℕ) (result : Result (Unit {0}) PushFault) → ((now : List ℕ) → R now → Q now) → Leaves R (KindFile kind) taken byte result → Leaves Q (KindFile kind) taken byte result
leaves_on R Q kind taken byte (Ok u) on h = on (taken ++ byte ∷ []) h
leaves_on R Q kind taken byte (Err Refused) on h = (on taken h.0, h.1)
leaves_on R Q kind taken byte (Err OutOfMemory) on h = (on taken h.0, h.1)
