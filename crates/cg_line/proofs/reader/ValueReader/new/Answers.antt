use Rattle.std.proofs.Common.{refl}
use Rattle.cg_line.specs.Reads.{held_by, reads_is}
use Rattle.cg_line.proofs.reader.ValueReader.new.Goals as goal

pub returns-clause-reads : goal.returns-clause-reads
returns-clause-reads c = reads_is _ _ _ (record { state = (refl, refl); form = c.form-form.ensures.bounds })

pub returns-clause-held : goal.returns-clause-held
unfolding held_by
returns-clause-held c = refl
