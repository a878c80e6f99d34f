use Rattle.std.proofs.Common.{List, ℕ, ◌++◌, ◌∙◌, ap, sym}
use Rattle.std.proofs.lemmas.Result.{on_ok_weaker}
use Rattle.cg_value.specs.Entry.{EntryData}
use Rattle.cg_tree.specs.Ruled.{ruled}
use Rattle.cg_run.specs.GoneOn.{left_out_line}
use Rattle.cg_run.proofs.GoingOn.{entries_out}
use Rattle.cg_run.proofs.Written.{joined_one}
use Rattle.cg_run.proofs.teller.KeptTellerTeller.tell_left_out.Goals as goal

pub returns : goal.returns
returns c told h =
    on_ok_weaker c.append_left_out.result (λ e. (
      e ∙ ap (λ (t : List ℕ). c.args.text.now.items ++ t) (joined_one (left_out_line c.args.left_out.now)),
      h ∙ ap (λ (es : List EntryData). ruled es) (sym (entries_out told c.args.left_out.now)),
    )) c.append_left_out.ensures
