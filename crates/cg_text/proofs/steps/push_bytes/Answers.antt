use Rattle.std.proofs.Common.{◌≡◌, take, arith}
use Rattle.cg_text.specs.RunLaws.{run_more, run_same}
use Rattle.cg_text.specs.PushLaws.{run_joined}
use Rattle.cg_text.proofs.steps.push_bytes.Goals as goal

pub returns-in-Ok-false-clause-stops : goal.returns-in-Ok-false-clause-stops
returns-in-Ok-false-clause-stops g c =
    let none = rw c.in-Ok-false.field-0-test at c.in-Ok-false.ensures.refused in
    let same = rw c.in-Ok-false.field-0-test at c.in-Ok-false.ensures.same in
    λ rest v h. none rest v ((same _ v).0 h)

pub returns-in-Err-clause-stops : goal.returns-in-Err-clause-stops
returns-in-Err-clause-stops g c =
    let b = c.in-Err.ensures.last in
    (b.0, b.1, (c.in-Err.ensures.same _ b.1).1 b.2)

pub loop-used-preserved-then-count-gt0 : goal.loop-used-preserved-then-count-gt0
loop-used-preserved-then-count-gt0 g c =
    let more = rw c.split_at.ensures.back at c.take_run-count.ensures.follows in
    record {
      within = omega (arith, c.take_run-count.ensures.within, c.split_at.ensures.back_len);
      follows = run_joined g.T.Steps.rests c.args.token.now c.loop-used.token c.take_run-count.new.self c.args.bytes.now c.loop-used.used c.take_run-count.result c.loop-used.invariant.follows more;
      size = omega (arith, c.loop-used.invariant.size, c.take_run-count.ensures.size);
      same = λ e. absurd (omega (arith, e, c.if-count-gt0.true));
    }

pub loop-used-preserved : goal.loop-used-preserved
loop-used-preserved g c =
    let none : c.take_run-count.result ≡ 0 = omega (arith, c.if-count-gt0.false) in
    let nothing = rw none at c.take_run-count.ensures.follows in
    let same = run_same g.T.Steps.rests c.args.token.now c.loop-used.token c.take_run-count.new.self (take c.loop-used.used c.args.bytes.now) c.loop-used.invariant.follows nothing in
    let taken = rw c.in-Ok-true.field-0-test at c.in-Ok-true.ensures.taken in
    record {
      within = omega (arith, c.loop-used-test.true);
      follows = run_more g.T.Steps.rests c.args.token.now c.take_run-count.new.self c.take_byte.new.self c.args.bytes.now c.loop-used.used c.loop-used-test.true same taken;
      size = omega (arith, c.loop-used.invariant.size, c.take_run-count.ensures.size, c.take_byte.ensures.size);
      same = λ e. absurd (omega (arith, e));
    }
