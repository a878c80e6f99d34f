use Rattle.std.proofs.Common.{refl, sym, subst}
use Rattle.cg_file.specs.contracts.any_file.AnyFileToken.TheImpl.{ghosts}
use Rattle.cg_line.specs.ReadsLaws.{state_of}
use Rattle.cg_line.specs.RestsLaws.{whole_is}
use Rattle.cg_line.specs.OpenReads.{OpenReads}
use Rattle.cg_line.specs.OpenReadsLaws.{took_read}
use Rattle.cg_line.specs.declared.open_reader.OpenReader.{OpenReader}
use Rattle.cg_line.proofs.reader.ValueReader.can_finish.Goals as goal

pub returns-in-New : goal.returns-in-New
returns-in-New c kind taken h = let new = state_of c.args.self.now _ kind taken c.in-New.is h in rw (new.1, ← new.0) c.may_be_empty.ensures

pub returns-in-Whole : goal.returns-in-Whole
returns-in-Whole c kind taken h =
    let whole = state_of c.args.self.now _ kind taken c.in-Whole.is h in
    (λ e. (c.in-Whole.field-0.value, whole.text), λ file. refl)

pub returns-in-Open : goal.returns-in-Open
returns-in-Open c kind taken h =
    let text = c.deref.result.now.text in
    let took = subst (λ (o : OpenReader). OpenReads o kind taken) (sym c.deref.ensures) (state_of c.args.self.now _ kind taken c.in-Open.is h) in
    whole_is (took_read c.deref.result.now kind taken took) (ghosts.ends text) c.can_end.result (ghosts.ends_is text) c.can_end.ensures
