-- What the program does with the words after its name: what it reads and writes, and its exit status.
use Rattle.std.specs.Prelude.{◌≡◌, ◌≢◌, ◌⊎◌, ℕ, ◌+◌, ◌≤◌, ◌<◌, Bool, true, List, length, take, map, codes, string_bytes, Option, Result, Ok, Err, String}
use Rattle.std.specs.Borrow.{Bor}
use Rattle.std.specs.Io.KnownBytes.{Appends, Keeps}
use Rattle.std.specs.declared.alloc.Global.{Global}
use Rattle.std.specs.declared.io.ErrorKind.{ErrorKind}
use Rattle.std.specs.declared.io.ErrorKind.TheVariants as io
use Rattle.cg_snap.specs.declared.limits.Limits.{Limits}
use Rattle.cg_value.specs.declared.profile.Profile.{Profile}
use Rattle.cg_outcome.specs.Outcome.{status_of}
use Rattle.cg_run.specs.Run.{IsIdle, RanWith}
use Rattle.cg_program.specs.Words.{Answers}
use Rattle.cg_outcome.specs.declared.outcome.Outcome.{Outcome}
use Rattle.cg_run.specs.declared.command.Command.{Command}
use Rattle.cg_run.specs.declared.options.Options.{Options}
use Rattle.cg_program.specs.declared.words.Request.{Request}
use Rattle.cg_program.specs.declared.words.UsageFault.{UsageFault}
use Rattle.cg_program.specs.declared.words.UsageFault.TheVariants.{Help, Bad, OutOfMemory}

-- What is written where the words ask for no run, and the status then, which is the same where it can't be written.
abbrev pub fault_text : UsageFault → List ℕ
fault_text (Help text) = string_bytes text
fault_text Bad = codes "cgfile: bad command line\n"
fault_text OutOfMemory = codes "cgfile: out of memory\n"

abbrev pub fault_status : UsageFault → ℕ
fault_status (Help text) = 0
fault_status Bad = 2
fault_status OutOfMemory = 4

-- The sink took the text; or, where it failed, the first bytes of it.
abbrev pub WroteText : (taken now : Option (List ℕ)) (failed : Bool) → List ℕ → Type 0
WroteText taken now failed text = Appends taken now text ⊎ ((n : ℕ) × (n ≤ length text) × Appends taken now (take n text) × (failed ≡ true))

-- How words are told that can't be had: there is no memory for them, or one of them is no text.
abbrev pub IsUnread : ErrorKind → UsageFault → Type 0
IsUnread kind fault = ((kind ≡ io.OutOfMemory) × (fault ≡ OutOfMemory)) ⊎ ((kind ≢ io.OutOfMemory) × (fault ≡ Bad))

-- What the words ask for, if they could be had.
abbrev pub IsAsked : Result (Bor (List (String Global))) ErrorKind → Result Request UsageFault → Type 0
IsAsked (Ok words) answer = Answers (map (λ w. string_bytes w) words.now) answer
IsAsked (Err kind) (Ok asked) = ⊥
IsAsked (Err kind) (Err fault) = IsUnread kind fault

-- The source before and after, with how often it was asked; and the sink.
module _ (coming left : Option (List ℕ)) (read_failed : Bool) (asked asks : ℕ) (taken now : Option (List ℕ)) (write_failed : Bool) where
  -- The command was run.
  pub record DidCommand (profile : Profile) (command : Command) (limits : Limits) (options : Options) (status : ℕ) : Type 0 where
    pub outcome : Outcome
    pub ran : RanWith profile command limits options coming left read_failed taken now write_failed outcome
    pub status_is : status ≡ status_of outcome
    pub few_asks : asks ≤ asked + limits.max_stream + 2
    pub unasked : IsIdle profile command → asks ≡ asked

  -- Nothing was run, and the text of the fault was written, which isn't empty.
  pub record DidTell (fault : UsageFault) (status : ℕ) : Type 0 where
    pub wrote : WroteText taken now write_failed (fault_text fault)
    pub says : 0 < length (fault_text fault)
    pub status_is : status ≡ fault_status fault
    pub unread : Keeps coming left
    pub unasked : asks ≡ asked

  abbrev pub Did : Result Request UsageFault → ℕ → Type 0
  Did (Ok asked_for) status = DidCommand asked_for.profile asked_for.command asked_for.limits asked_for.options status
  Did (Err fault) status = DidTell fault status

  -- All that the program does with its words, to its status.
  pub record DidWords (words : Result (Bor (List (String Global))) ErrorKind) (status : ℕ) : Type 0 where
    pub answer : Result Request UsageFault
    pub asked_for : IsAsked words answer
    pub did : Did answer status
