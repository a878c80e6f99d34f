-- A command with subcommands, from a row of a table on.
use Rattle.std.proofs.Common.{◌≡◌, ℕ, suc, ◌+◌, ◌<◌, List, false, refl, ap, drop, drop-cons, add-one, length, slice_index_or}
use Rattle.clap.specs.Words.{App, AddsSubcommand, app_of}
use Rattle.clap.specs.declared.builder.command.Command.{Command}
use Rattle.clap.specs.declared.builder.command.Command.TheViews.{out-Command}
use Rattle.cg_program.specs.CommandLine.{Lent, commands_of, sub_app, with_commands}
use Rattle.cg_program.specs.declared.help.Row.{Row}
use Rattle.cg_program.proofs.Builds.{adds_app}

module _ (names : Lent) (rows : List Row) (at : ℕ) (d : Row) (old sub new : Command) (within : at < length rows) (adds : AddsSubcommand old sub new) where
  pub next_row : app_of sub ≡ sub_app names ((slice_index_or rows at d).word.now, (slice_index_or rows at d).takes_name) → (out-Command sub).has_globals ≡ false
      → with_commands names (commands_of (drop (at + 1) rows)) (app_of new) ≡ with_commands names (commands_of (drop at rows)) (app_of old)
  next_row is local = rw (add-one at, drop-cons rows at d within) (ap (λ (a : App). with_commands names (commands_of (drop (suc at) rows)) a) (adds_app old new sub (app_of old) _ adds refl is local))
