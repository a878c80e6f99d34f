-- How faults are told.
use Rattle.std.proofs.Common.{◌≡◌, ◌⊎◌, ◌<◌, inl, inr, List, [], length, Option, Result, Ok, Err, sym, subst, arith}
use Rattle.std.specs.Prelude.{IfErr, IfOk}
use Rattle.std.specs.declared.io.ErrorKind.{ErrorKind as IoKind}
use Rattle.clap.specs.Words.{Row, Text, Kinds as Errors, IsAmong, fault_of, matches_of, subcommand_of}
use Rattle.clap.specs.declared.error.kind.ErrorKind.{ErrorKind}
use Rattle.clap.specs.declared.error.kind.ErrorKind.TheVariants as errors
use Rattle.cg_program.specs.declared.words.Request.{Request}
use Rattle.cg_program.specs.declared.words.UsageFault.{UsageFault}
use Rattle.cg_program.specs.declared.words.UsageFault.TheVariants.{Help, Bad, OutOfMemory}
use Rattle.cg_program.specs.CommandLine.{cgfile_app}
use Rattle.cg_program.specs.Program.{IsUnread, fault_text}
use Rattle.cg_program.specs.Words.{Answers, IsMade, IsRefusal, IsTold, IsToldOf}

pub ok_always : {X E : Type 0} (r : Result X E) (P : Type 0) → P → IfOk r (λ _. P)
ok_always (Ok x) P p = p
ok_always (Err e) P p = tt

pub made_alike : (rows rows' : List Row) (sub sub' : Option (Text × List Row)) (r : Request) → rows ≡ rows' → sub ≡ sub' → IsMade rows sub r → IsMade rows' sub' r
made_alike rows rows' sub sub' r e f made = rw (← e, ← f) made

pub refusal_told : (kinds : Errors) (before : List Row) (sub : Option (Text × List Row)) (fault : UsageFault) → kinds ≡ [] → IsRefusal before sub fault → IsTold kinds before sub fault
refusal_told kinds before sub (Help text) none (inl h) = cc
refusal_told kinds before sub (Help text) none (inr h) = let bad = h.0 in cc
refusal_told kinds before sub Bad none (inl h) = cc
refusal_told kinds before sub Bad none (inr h) = inr (none, h.1)
refusal_told kinds before sub OutOfMemory none h = tt

pub error_told : (kind : ErrorKind) (kinds : Errors) (before : List Row) (sub : Option (Text × List Row)) (fault : UsageFault)
    → (kind ≡ errors.OutOfMemory → fault ≡ OutOfMemory) → IsToldOf kind fault → (kind ≡ errors.OutOfMemory) ⊎ IsAmong kind kinds → IsTold kinds before sub fault
error_told kind kinds before sub (Help text) memory told (inl h) = let bad : Help text ≡ OutOfMemory = memory h in cc
error_told kind kinds before sub (Help text) memory told (inr h) = (kind, h, told)
error_told kind kinds before sub Bad memory told (inl h) = let bad : Bad ≡ OutOfMemory = memory h in cc
error_told kind kinds before sub Bad memory told (inr h) = inl (kind, h, told)
error_told kind kinds before sub OutOfMemory memory told h = tt

-- ---- A fault has a text

told_says : (kinds : Errors) (before : List Row) (sub : Option (Text × List Row)) (fault : UsageFault) → IsTold kinds before sub fault → 0 < length (fault_text fault)
told_says kinds before sub (Help text) told = told.2.1
told_says kinds before sub Bad told = omega arith
told_says kinds before sub OutOfMemory told = omega arith

pub answer_says : (words : List Text) (answer : Result Request UsageFault) → Answers words answer → IfErr answer (λ fault. 0 < length (fault_text fault))
answer_says words (Ok asked_for) h = tt
answer_says words (Err fault) h = told_says (fault_of (cgfile_app h.0) words) (matches_of (cgfile_app h.0) words) (subcommand_of (cgfile_app h.0) words) fault h.1.told

pub unread_says : (kind : IoKind) (fault : UsageFault) → IsUnread kind fault → 0 < length (fault_text fault)
unread_says kind fault (inl h) = subst (λ f. 0 < length (fault_text f)) (sym h.1) (omega arith)
unread_says kind fault (inr h) = subst (λ f. 0 < length (fault_text f)) (sym h.1) (omega arith)
