use Rattle.std.proofs.Common.{◌≡◌, drop, false}
use Rattle.clap.specs.Words.{app_of}
use Rattle.clap.specs.declared.builder.command.Command.TheViews.{out-Command as fields_of}
use Rattle.cg_program.specs.CommandLine.{commands_of, with_commands}
use Rattle.cg_program.proofs.command_line.commanded.Given as goal

abbrev pub invariant-loop-row : goal.invariant-loop-row
invariant-loop-row l = record {
  app : with_commands l.profiles.names (commands_of (drop l.row-index l.rows)) (app_of l.command) ≡ with_commands l.profiles.names (commands_of l.rows) (app_of l.initial.command);
  local : (fields_of l.initial.command).has_globals ≡ false → (fields_of l.command).has_globals ≡ false;
}
