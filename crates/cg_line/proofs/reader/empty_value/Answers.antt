use Rattle.std.proofs.Common.{[]}
use Rattle.cg_file.specs.contracts.any_file.AnyFileToken.TheImpl.{ghosts}
use Rattle.cg_line.specs.RestsLaws.{value_is, whole_is}
use Rattle.cg_line.specs.OpenReadsLaws.{took_read}
use Rattle.cg_line.proofs.reader.empty_value.Goals as goal

pub returns-then-can_end : goal.returns-then-can_end
returns-then-can_end c = (value_is (took_read c.new.result c.args.kind [] c.new.ensures.reads) c.take.result).0 c.take.ensures.value

pub returns-else-can_end : goal.returns-else-can_end
returns-else-can_end c file =
    let text = c.new.result.text in
    let whole = whole_is (took_read c.new.result c.args.kind [] c.new.ensures.reads) (ghosts.ends text) c.can_end.result (ghosts.ends_is text) c.can_end.ensures in
    let ends = whole.1 file in
    let not = c.if-can_end.false in
    cc
