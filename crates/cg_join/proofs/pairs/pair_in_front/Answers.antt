use Rattle.std.proofs.Common.{◌+◌, ◌<◌, length, take, drop, ap, ◌∙◌, arith}
use Rattle.cg_join.specs.WholeLineLaws.{delimiter_cut}
use Rattle.cg_join.proofs.pairs.pair_in_front.Goals as goal

pub returns-clause-front : goal.returns-clause-front
returns-clause-front g c =
    let bytes = c.args.bytes.now in
    let n = c.in-Some.found.1 in
    let m = c.in-Some-whole.found.1 in
    let first = c.in-Some.ensures.front in
    let second = rw c.split_at.ensures.back at c.in-Some-whole.ensures.front in
    let inside : n < length bytes = omega (arith, first.0, c.if-count-bytes.false) in
    let word = ap g.F.Pairing.word_of c.complete.ensures ∙ g.F.Pairing.has_word (g.F.Pairing.word_of c.begin-pair.result) c.in-Some-whole.found.0 ∙ c.begin-pair.ensures.word in
    let value = ap g.F.Pairing.value_of c.complete.ensures ∙ g.F.Pairing.has_value (g.F.Pairing.word_of c.begin-pair.result) c.in-Some-whole.found.0 in (
      omega (arith, c.in-Some-whole.ensures.front.0, c.split_at.ensures.back_len, inside),
      record {
        front = take n bytes;
        back = take m (drop (n + 1) bytes);
        whole = delimiter_cut bytes n m c.args.delimiter inside c.if-bytes-count.false;
        begins = rw word first.1;
        ends = rw value second.1;
      },
    )
