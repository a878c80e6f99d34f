use Rattle.cg_text.specs.BytesLaws.{none_marked}
use Rattle.cg_text.proofs.bytes.ByteSet.new.Goals as goal

pub returns-clause-empty : goal.returns-clause-empty
returns-clause-empty c = none_marked
