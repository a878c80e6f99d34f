use Rattle.std.proofs.Common.{take, drop, arith}
use Rattle.std.proofs.Math.Seq.{take-add}
use Rattle.cg_join.proofs.sequence.SequenceToken.whole.Goals as goal

pub returns-in-Some-whole-clause-front : goal.returns-in-Some-whole-clause-front
returns-in-Some-whole-clause-front g c =
    let bytes = c.args.bytes.now in
    let first = c.in-Some.ensures.front in
    let second = rw c.split_at.ensures.back at c.in-Some-whole.ensures.front in (
      omega (arith, first.0, c.in-Some-whole.ensures.front.0, c.split_at.ensures.back_len),
      rw c.if-self.false (record {
        front = take c.in-Some.found.1 bytes;
        back = take c.in-Some-whole.more (drop c.in-Some.found.1 bytes);
        whole = take-add c.in-Some.found.1 c.in-Some-whole.more bytes;
        begins = first.1;
        ends = second.1;
      }),
    )
