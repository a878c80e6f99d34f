use Rattle.std.proofs.Common.{refl, sym, subst}
use Rattle.cg_file.specs.contracts.any_file.AnyFileToken.TheImpl.{ghosts}
use Rattle.cg_line.specs.RestsLaws.{value_is, whole_is}
use Rattle.cg_line.specs.OpenReads.{OpenReads}
use Rattle.cg_line.specs.OpenReadsLaws.{took_read}
use Rattle.cg_line.specs.declared.open_reader.OpenReader.{OpenReader}
use Rattle.cg_line.proofs.reader.finish_open.Goals as goal

pub returns-then-can_end : goal.returns-then-can_end
returns-then-can_end c kind taken h =
    let took = subst (λ (o : OpenReader). OpenReads o kind taken) (sym c.into_inner.ensures) h in
    (value_is (took_read c.into_inner.result kind taken took) c.take.result).0 c.take.ensures.value

pub returns-else-can_end : goal.returns-else-can_end
returns-else-can_end c kind taken h =
    let text = c.deref.result.now.text in
    let took = subst (λ (o : OpenReader). OpenReads o kind taken) (sym c.deref.ensures) h in
    let whole = whole_is (took_read c.deref.result.now kind taken took) (ghosts.ends text) c.can_end.result (ghosts.ends_is text) c.can_end.ensures in
    (refl, λ file. (let ends = whole.1 file in let not = c.if-can_end.false in cc))
