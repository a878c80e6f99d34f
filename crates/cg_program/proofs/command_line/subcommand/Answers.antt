use Rattle.std.proofs.Common.{◌≡◌, ap, ◌∙◌}
use Rattle.std.proofs.lemmas.Result.{IfOk-weaker}
use Rattle.clap.specs.Words.{App, app_of, new_app}
use Rattle.clap.specs.Simple.{app_of_fields}
use Rattle.cg_program.specs.CommandLine.{with_name, with_options}
use Rattle.cg_program.proofs.command_line.subcommand.Goals as goal

pub returns-clause-app : goal.returns-clause-app
returns-clause-app c =
    let row = c.args.row.now in
    let plain : app_of c.after_help-command.result ≡ new_app row.word.now =
    ap app_of_fields c.after_help-command.ensures ∙ ap app_of_fields c.about.ensures ∙ c.new.ensures.app in
    let named = c.in_ok-named.ensures.app ∙ ap (λ (a : App). with_name row.takes_name a) plain in
    IfOk-weaker c.optioned.result _ _ (λ r h. h ∙ ap (λ (a : App). with_options c.args.profiles a) named) c.optioned.ensures.app
