use Rattle.std.proofs.Common.{[]}
use Rattle.cg_file.specs.contracts.any_file.AnyFileToken.TheImpl.{ghosts}
use Rattle.cg_line.specs.RestsLaws.{whole_is}
use Rattle.cg_line.specs.OpenReadsLaws.{took_read}
use Rattle.cg_line.proofs.reader.may_be_empty.Goals as goal

pub returns : goal.returns
returns c = let text = c.new.result.text in whole_is (took_read c.new.result c.args.kind [] c.new.ensures.reads) (ghosts.ends text) c.can_end.result (ghosts.ends_is text) c.can_end.ensures
