-- A run without the options.
use Rattle.std.proofs.Common.{◌≡◌, ℕ, Bool, true, false, List, [], ◌++◌, Option, None, Some, append-nil, ap, subst, ◌∙◌}
use Rattle.cg_text.specs.Texts.{TextOf}
use Rattle.cg_value.specs.Files.{KindText}
use Rattle.cg_value.specs.Settings.{WriteText}
use Rattle.cg_value.specs.Table.{read_form_of, write_form_of}
use Rattle.cg_value.specs.declared.profile.Profile.{Profile}
use Rattle.cg_snap.specs.Plan.{Plan}
use Rattle.cg_snap.specs.Snap.{Snap}
use Rattle.cg_snap.specs.declared.limits.Limits.{Limits}
use Rattle.cg_snap.specs.declared.stop.Stop.TheVariants as stop
use Rattle.cg_outcome.specs.Explain.{ExplainsNext, IsInRecord, IsInText, Tells}
use Rattle.cg_run.specs.GoneOn.{ExplainsOn}
use Rattle.cg_outcome.specs.Input.{Reading}
use Rattle.cg_outcome.specs.Outcome.{last_line}
use Rattle.cg_run.specs.Run.{DidRun, DidRunWith, TellsOf, TellsOfFile, TellsOfForm, TellsOfSnapshot, TellsOfWrite}
use Rattle.cg_outcome.specs.Wrote.{Wrote, joined}
use Rattle.cg_run.specs.declared.options.Options.{Options}
use Rattle.cg_outcome.specs.declared.outcome.Outcome.{Outcome}
use Rattle.cg_outcome.specs.declared.outcome.Outcome.TheVariants as out
use Rattle.cg_run.specs.declared.command.Command.{Command}
use Rattle.cg_run.specs.declared.command.Command.TheVariants as command

-- Without an option a run is a plain one.
pub plain_ran : (Right : Reading → Outcome → List (List ℕ) → Type 0) (Tells : Reading → Outcome → List ℕ → Type 0) → ((r : Reading) (o : Outcome) (more : List ℕ) → Tells r o more → more ≡ []) →
    (coming left : Option (List ℕ)) (read_failed : Bool) (taken now : Option (List ℕ)) (write_failed : Bool) (o : Outcome) →
    DidRunWith Right Tells coming left read_failed taken now write_failed o → DidRun Right coming left read_failed taken now write_failed o
plain_ran Right Tells none coming left read_failed taken now write_failed o h =
    let r : Reading = record { bytes = h.read; left = left; failed = read_failed } in
    let same : last_line h.wanted ++ h.more ≡ last_line h.wanted = ap (λ (t : List ℕ). last_line h.wanted ++ t) (none r h.wanted h.more h.tells) ∙ append-nil (last_line h.wanted) in
    record {
      read = h.read;
      consumed = h.consumed;
      wanted = h.wanted;
      parts = h.parts;
      right = h.right;
      wrote = subst (λ (t : List ℕ). Wrote taken now write_failed (joined h.parts ++ t) h.wanted o) same h.wrote;
    }

-- Without the option nothing is written behind the last line.
pub tells_none : (Line : List ℕ → Option ℕ → List ℕ → Type 0) (r : Reading) (o : Outcome) (more : List ℕ) → Tells Line false r o more → more ≡ []
tells_none Line r out.Done more t = t
tells_none Line r (out.Findings n) more t = t
tells_none Line r (out.LeftOut n) more t = t
tells_none Line r (out.Stopped (stop.Refused at why)) more t = t
tells_none Line r (out.Stopped (stop.TooLong at)) more t = t
tells_none Line r (out.Stopped (stop.TooMany at)) more t = t
tells_none Line r (out.Stopped (stop.TooMuch at)) more t = t
tells_none Line r (out.Stopped (stop.Cut at)) more t = t
tells_none Line r out.NotReadable more t = t
tells_none Line r out.NotWritable more t = t
tells_none Line r out.ReadFault more t = t
tells_none Line r (out.WriteFault n) more t = t
tells_none Line r out.OutOfMemory more t = t

form_tells : {F : Type 0} (Told : F → Reading → Outcome → List ℕ → Type 0) → ((form : F) (r : Reading) (o : Outcome) (more : List ℕ) → Told form r o more → more ≡ []) →
    (form : Option F) (r : Reading) (o : Outcome) (more : List ℕ) → TellsOfForm Told form r o more → more ≡ []
form_tells Told none None r o more t = t
form_tells Told none (Some form) r o more t = none form r o more t

pub snapshot_tells : (keep_going : Bool) (profile : Profile) (limits : Limits) (explain : Bool) → explain ≡ false → (r : Reading) (o : Outcome) (more : List ℕ) → TellsOfSnapshot keep_going profile limits explain r o more → more ≡ []
snapshot_tells true profile limits explain e r o more t = tells_none (ExplainsOn profile limits) r o more (subst (λ (b : Bool). Tells (ExplainsOn profile limits) b r o more) e t)
snapshot_tells false profile limits explain e r o more t = tells_none (ExplainsNext (Snap profile) IsInRecord) r o more (subst (λ (b : Bool). Tells (ExplainsNext (Snap profile) IsInRecord) b r o more) e t)

pub command_tells : (profile : Profile) (c : Command) (limits : Limits) (options : Options) → options.explain ≡ false → (r : Reading) (o : Outcome) (more : List ℕ) → TellsOf profile c limits options r o more → more ≡ []
command_tells profile (command.File name) limits options e r o more t =
    form_tells (λ kind. Tells (ExplainsNext (TextOf (λ text v. KindText kind v text)) (IsInText name.items)) false) (λ kind s p m u. tells_none (ExplainsNext (TextOf (λ text v. KindText kind v text)) (IsInText name.items)) s p m u) (read_form_of profile name.items) r o more
    (subst (λ (b : Bool). TellsOfFile b name.items (read_form_of profile name.items) r o more) e t)
command_tells profile (command.Setting name) limits options e r o more t =
    form_tells (λ kind. Tells (ExplainsNext (TextOf (λ text v. WriteText kind v text)) (IsInText name.items)) false) (λ kind s p m u. tells_none (ExplainsNext (TextOf (λ text v. WriteText kind v text)) (IsInText name.items)) s p m u) (write_form_of profile name.items) r o more
    (subst (λ (b : Bool). TellsOfWrite b name.items (write_form_of profile name.items) r o more) e t)
command_tells profile command.Kinds limits options e r o more t = t
command_tells profile command.Show limits options e r o more t = snapshot_tells options.keep_going profile limits options.explain e r o more t
command_tells profile command.Json limits options e r o more t = snapshot_tells options.keep_going profile limits options.explain e r o more t
command_tells profile command.Check limits options e r o more t = snapshot_tells options.keep_going profile limits options.explain e r o more t
command_tells profile command.Plan limits options e r o more t = tells_none (ExplainsNext (Plan profile) IsInRecord) r o more (subst (λ (b : Bool). Tells (ExplainsNext (Plan profile) IsInRecord) b r o more) e t)
