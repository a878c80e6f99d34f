use Rattle.std.proofs.Common.{inl, refl}
use Rattle.cg_file.specs.Kinds.{TextsOf}
use Rattle.cg_file.specs.contracts.any_file.AnyFileToken.TheImpl.{ghosts}
use Rattle.cg_line.specs.HeldLaws.{holds_none}
use Rattle.cg_line.specs.RestsLaws.{new_read}
use Rattle.cg_line.specs.OpenReads.{open_reads_is}
use Rattle.cg_line.proofs.open_reader.OpenReader.new.Goals as goal

pub returns-clause-reads : goal.returns-clause-reads
returns-clause-reads c = open_reads_is _ _ _ (record {
  read = new_read ghosts.means ghosts.size (TextsOf c.args.kind) c.new.result c.new.ensures.spells (ghosts.completes c.new.result) c.new.ensures.size;
  form = c.new.ensures.form;
  place = inl refl;
  little = holds_none _ _ c.new.ensures.size;
})
