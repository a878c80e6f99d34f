use Rattle.std.proofs.Common.{◌≡◌, ◌∙◌, ap, sym, subst, true, map, string_bytes, List, Option, is_some, inl, []}
use Rattle.std.specs.Prelude.{IfErr}
use Rattle.std.proofs.lemmas.Result.{IfOk-weaker, IfErr-weaker}
use Rattle.clap.specs.Kinds.{HasKind}
use Rattle.clap.specs.Words.{App, Row, Text, fault_of, found_of, is_simple, kind_of, matches_of, rows_of, subcommand_of, subcommand_rows_of, takes}
use Rattle.clap.specs.Faults.{is_simple_and_free}
use Rattle.clap.proofs.CallerLemmas.{subcommand_required}
use Rattle.cg_program.specs.CommandLine.{cgfile_app}
use Rattle.cg_program.specs.Words.{IsRefusal, is_met}
use Rattle.cg_program.proofs.Entered.{free_app, met_is_word, needs_subcommand, simple_app, some_rows}
use Rattle.cg_program.proofs.WordsTold.{error_told, made_alike, ok_always, refusal_told}
use Rattle.cg_program.proofs.words.parse_named.Goals as goal

-- where `clap` gives matches
module _ (c : goal.Joined-matches) where
  abbrev app : App
  app = cgfile_app c.args.profiles

  abbrev words : List Text
  words = map (λ w. string_bytes w) c.args.words.now

  same : subcommand_rows_of c.in-Ok.matches ≡ subcommand_of app words
  same = (c.in-Ok.ensures.matches (ap is_simple c.in_ok-command.ensures.app ∙ simple_app c.args.profiles)).1 ∙ ap (λ (a : App). subcommand_of a words) c.in_ok-command.ensures.app

  right : fault_of app words ≡ []
  right = sym (ap (λ (a : App). fault_of a words) c.in_ok-command.ensures.app) ∙ c.in-Ok.ensures.kinds (ap is_simple_and_free c.in_ok-command.ensures.app ∙ free_app c.args.profiles)

  before : rows_of (found_of c.in-Ok.matches) ≡ matches_of app words
  before = (c.in-Ok.ensures.matches (ap is_simple c.in_ok-command.ensures.app ∙ simple_app c.args.profiles)).0 ∙ ap (λ (a : App). matches_of a words) c.in_ok-command.ensures.app

  refusal : IfErr c.made.result (IsRefusal (matches_of app words) (subcommand_of app words))
  refusal =
      let needed = ap (λ (a : App). a.top.subcommand_required) c.in_ok-command.ensures.app ∙ needs_subcommand c.args.profiles in
      let met = subcommand_required _ _ c.in-Ok.ensures.parsed c.in_ok-command.ensures.local needed in
      let rows : is_some (subcommand_rows_of c.in-Ok.matches) ≡ true = some_rows _ _ met in
      let word = ap is_met same ∙ met_is_word c.args.profiles words (ap is_some (sym same) ∙ rows) in
      subst (λ (s : Option (Text × List Row)). IfErr c.made.result (IsRefusal (matches_of app words) s)) same
      (subst (λ (b : List Row). IfErr c.made.result (IsRefusal b (subcommand_rows_of c.in-Ok.matches))) before (c.made.ensures.known word))

pub returns-in-Ok-clause-made : goal.returns-in-Ok-clause-made
returns-in-Ok-clause-made c =
    IfOk-weaker c.made.result _ _ (λ r h. made_alike _ _ _ _ r (before c) (same c) h) c.made.ensures.made

pub returns-in-Ok-clause-right : goal.returns-in-Ok-clause-right
returns-in-Ok-clause-right c = ok_always c.made.result _ (right c)

pub returns-in-Ok-clause-told : goal.returns-in-Ok-clause-told
returns-in-Ok-clause-told c = IfErr-weaker c.made.result _ _ (λ e h. refusal_told _ (matches_of (app c) (words c)) _ e (right c) h) (refusal c)

pub returns-in-Ok-clause-taken : goal.returns-in-Ok-clause-taken
returns-in-Ok-clause-taken c t = refusal c

pub returns-in-Err-clause-told : goal.returns-in-Err-clause-told
returns-in-Err-clause-told c =
    let app_is = c.in_ok-command.ensures.app in
    let words : List Text = map (λ w. string_bytes w) c.args.words.now in
    let fails = c.in-Err.ensures.kinds (ap is_simple_and_free app_is ∙ free_app c.args.profiles) in
    let named = subst (λ (a : App). HasKind (fault_of a words) c.in-Err.error) app_is fails in
    error_told (kind_of c.in-Err.error) (fault_of (cgfile_app c.args.profiles) words) (matches_of (cgfile_app c.args.profiles) words) (subcommand_of (cgfile_app c.args.profiles) words) c.refused.result c.refused.ensures.memory c.refused.ensures.told named

pub returns-in-Err-clause-taken : goal.returns-in-Err-clause-taken
returns-in-Err-clause-taken c t =
    let words : List Text = map (λ w. string_bytes w) c.args.words.now in
    inl (c.refused.ensures.memory (c.in-Err.ensures.passes (ap (λ (a : App). takes a words) c.in_ok-command.ensures.app ∙ t)))
