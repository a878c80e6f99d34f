use Rattle.std.proofs.Common.{◌∙◌}
use Rattle.cg_program.proofs.Builds.{adds_local}
use Rattle.cg_program.proofs.Commands.{next_row}
use Rattle.cg_program.proofs.command_line.commanded.Goals as goal

pub loop-row-preserved : goal.loop-row-preserved
loop-row-preserved c =
    let sub = c.in_ok-subcommand.ensures in
    let adds = c.in_ok-command.ensures in
    let next = next_row c.args.profiles.names c.args.rows.now c.loop-row.row-index _ _ _ _ c.loop-row-test.true adds sub.app sub.local in
    record {
      app = next ∙ c.loop-row.invariant.app;
      local = λ none. adds_local _ _ _ adds (c.loop-row.invariant.local none) sub.local;
    }
