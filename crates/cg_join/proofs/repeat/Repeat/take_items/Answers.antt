use Rattle.std.proofs.Common.{arith}
use Rattle.cg_join.specs.Repeat.{IsListAfter}
use Rattle.cg_text.specs.PushLaws.{run_joined}
use Rattle.cg_join.proofs.repeat.Repeat.take_items.Goals as goal

pub returns-then-count-eq0-clause-follows : goal.returns-then-count-eq0-clause-follows
returns-then-count-eq0-clause-follows g c =
    let more = rw c.split_at.ensures.back at c.take_item-count.ensures.follows in
    run_joined (λ s rest all. IsListAfter s.items.items (g.T.Token.means s.current) (g.S.MakeToken.texts s.start) s.separator rest all)
    c.args.self.now c.loop-used.self c.take_item-count.new.self c.args.bytes.now c.loop-used.used c.take_item-count.result c.loop-used.invariant.follows more

pub loop-used-preserved : goal.loop-used-preserved
loop-used-preserved g c =
    let more = rw c.split_at.ensures.back at c.take_item-count.ensures.follows in
    record {
      within = omega (arith, c.split_at.ensures.back_len, c.take_item-count.ensures.within);
      follows = run_joined (λ s rest all. IsListAfter s.items.items (g.T.Token.means s.current) (g.S.MakeToken.texts s.start) s.separator rest all)
          c.args.self.now c.loop-used.self c.take_item-count.new.self c.args.bytes.now c.loop-used.used c.take_item-count.result c.loop-used.invariant.follows more;
      size = omega (arith, c.loop-used.invariant.size, c.take_item-count.ensures.size);
      same = λ e. absurd (omega (arith, e, c.if-count-eq0.false));
    }
