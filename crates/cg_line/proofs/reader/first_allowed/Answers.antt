use Rattle.std.proofs.Common.{[]}
use Rattle.cg_text.specs.Bytes.{HasByte}
use Rattle.cg_line.specs.RestsLaws.{next_is}
use Rattle.cg_line.specs.OpenReadsLaws.{took_read}
use Rattle.cg_line.proofs.reader.first_allowed.Goals as goal

pub returns : goal.returns
returns c = next_is (took_read c.new.result c.args.kind [] c.new.ensures.reads) (HasByte c.allowed_by.result) c.allowed_by.ensures
