use Rattle.std.proofs.Common.{[]}
use Rattle.cg_line.proofs.reader.begins_line.Goals as goal

pub returns : goal.returns
returns c = c.takes_line.ensures c.args.kind [] c.new.ensures.reads
