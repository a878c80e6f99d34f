use Rattle.std.proofs.Common.{[], ap, arith, length, sym, append-nil, subst}
use Rattle.cg_line.specs.Reads.{Reads}
use Rattle.cg_run.proofs.file_reader.FileReader.renew.Goals as goal

pub returns-clause-kept : goal.returns-clause-kept
returns-clause-kept c kind taken h go = record {
  front = taken;
  back = [];
  parts = sym (append-nil taken);
  count = omega (arith, ap length h.text, c.args.self.now.text.ok.0);
  let_go = go;
  reads = subst (λ k. Reads c.new.result k []) h.of_kind c.new.ensures.reads;
  held = omega (arith, c.new.ensures.held);
  of_kind = h.of_kind;
  text = h.text;
}

pub returns-clause-all : goal.returns-clause-all
returns-clause-all c kind taken h = omega (arith, ap length h.text, c.args.self.now.text.ok.0)
