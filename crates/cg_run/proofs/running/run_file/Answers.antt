use Rattle.std.specs.Prelude.{is_some}
use Rattle.std.proofs.Common.{refl}
use Rattle.cg_value.specs.Table.{read_form_of}
use Rattle.cg_run.specs.Run.{IsFileRight, TellsOfFile}
use Rattle.cg_outcome.specs.declared.outcome.Outcome.TheVariants as out
use Rattle.cg_run.proofs.RunLemmas.{idle_ran}
use Rattle.cg_run.proofs.running.run_file.Goals as goal

pub returns-in-Err-clause-ran : goal.returns-in-Err-clause-ran
returns-in-Err-clause-ran g c fresh lines =
    idle_ran (IsFileRight (read_form_of c.args.profile c.args.name.now) c.args.max) (TellsOfFile (is_some c.args.lines) c.args.name.now (read_form_of c.args.profile c.args.name.now)) _ _ _ _ _ out.NotReadable c.told_line.result
    (rw c.in-Err.ensures.unreadable (record { outcome = refl; unread = refl; none = refl })) (rw c.in-Err.ensures.unreadable refl) c.told_line.ensures

pub returns-in-Ok-clause-ran : goal.returns-in-Ok-clause-ran
returns-in-Ok-clause-ran g c fresh lines = rw c.in-Ok.ensures.readable (c.run_text.ensures.ran c.in-Ok.kind c.new.ensures fresh lines)
