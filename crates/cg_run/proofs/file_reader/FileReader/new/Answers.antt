use Rattle.std.proofs.Common.{[], arith, refl}
use Rattle.cg_run.proofs.LetGo.{nothing_let_go, settled_anew}
use Rattle.cg_run.proofs.file_reader.FileReader.new.Goals as goal

pub returns : goal.returns
returns c = settled_anew _ c.args.kind [] (record {
  front = [];
  back = [];
  parts = refl;
  count = refl;
  let_go = nothing_let_go c.args.kind;
  reads = c.new.ensures.reads;
  held = omega (arith, c.new.ensures.held);
  of_kind = refl;
  text = c.new-2.ensures.items;
}) refl
