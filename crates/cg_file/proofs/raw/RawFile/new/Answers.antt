use Rattle.cg_file.specs.RawFileLaws.{raw_is}
use Rattle.cg_file.proofs.raw.RawFile.new.Goals as goal

pub returns-clause-spells : goal.returns-clause-spells
returns-clause-spells c = record { is = λ rest v. rw c.new.ensures.items (raw_is rest v) }
