use Rattle.std.proofs.Common.{false, refl}
use Rattle.cg_run.specs.Run.{IsRight, TellsOf}
use Rattle.cg_run.proofs.WithoutOptions.{command_tells, plain_ran}
use Rattle.cg_run.proofs.running.run.Goals as goal

pub returns-clause-ran : goal.returns-clause-ran
returns-clause-ran g c fresh =
    let command = c.args.command.now in
    plain_ran (IsRight c.args.profile command c.args.limits) (TellsOf c.args.profile command c.args.limits (record { explain = false; keep_going = false })) (command_tells c.args.profile command c.args.limits (record { explain = false; keep_going = false }) refl)
    (g.R.Source.coming c.args.reader.now) (g.R.Source.coming c.run_with.new.reader) (g.R.Source.has_failed c.run_with.new.reader)
    (g.W.Sink.taken c.args.writer.now) (g.W.Sink.taken c.run_with.new.writer) (g.W.Sink.has_failed c.run_with.new.writer) c.run_with.result (c.run_with.ensures.ran fresh)
