use Rattle.std.proofs.Common.{List, ap, append-nil, sym, ◌∙◌}
use Rattle.std.proofs.lemmas.Result.{on_ok_weaker}
use Rattle.cg_value.specs.Entry.{EntryData}
use Rattle.cg_tree.specs.Ruled.{ruled}
use Rattle.cg_run.specs.GoneOn.{entries_of}
use Rattle.cg_run.proofs.GoingOn.{entries_push}
use Rattle.cg_run.proofs.Keeping.{kept_more}
use Rattle.cg_run.proofs.teller.KeptTellerTeller.tell_entry.Goals as goal

pub returns : goal.returns
returns c told h =
    on_ok_weaker c.keep.result (λ k. (
      sym (append-nil c.args._text.now.items),
      kept_more c.args.self.now.entries.items c.keep.new.entries.items (entries_of told) c.args.entry h k ∙ ap (λ (es : List EntryData). ruled es) (sym (entries_push told c.args.entry)),
    )) c.keep.ensures.kept
