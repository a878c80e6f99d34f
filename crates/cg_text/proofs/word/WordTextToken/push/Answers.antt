use Rattle.std.proofs.Common.{get_or, vec_len, arith}
use Rattle.cg_text.specs.WordLaws.{front_taken, lengthens_is, word_begins, word_lengthens}
use Rattle.cg_text.proofs.word.WordTextToken.push.Goals as goal

pub returns-then-not-may_stand-clause-stops : goal.returns-then-not-may_stand-clause-stops
returns-then-not-may_stand-clause-stops c = λ rest word h.
    let s = c.args.self.now in
    let byte = get_or c.args.bytes.now 0 0 in
    let is = lengthens_is s.controller c.is_empty-2.result s.bytes.items (vec_len s.bytes) byte (omega (arith, s.bytes.ok.0)) c.is_empty-2.ensures in
    let stands = c.may_stand.ensures.1 (is.1 (word_lengthens s.controller s.bytes.items byte rest word h)) in
    let refused = c.if-not-may_stand.true in
    cc

pub invariant_of-self : goal.invariant_of-self
invariant_of-self c =
    let s = c.args.self.now in
    let byte = get_or c.args.bytes.now 0 0 in
    let is = lengthens_is s.controller c.is_empty-2.result s.bytes.items (vec_len s.bytes) byte (omega (arith, s.bytes.ok.0)) c.is_empty-2.ensures in
    record {
      sound = front_taken s.controller _ s.bytes.items c.args.bytes.now c.split_at.result.0.now _ c.word_front-count.result.0 c.extend_from_slice.ensures.items c.split_at.ensures.front s.sound
          (is.0 (c.may_stand.ensures.0 c.if-not-may_stand.false)) c.word_front-count.ensures.words;
    }

pub returns-in-Err-clause-stops : goal.returns-in-Err-clause-stops
returns-in-Err-clause-stops c =
    let s = c.args.self.now in
    let byte = get_or c.args.bytes.now 0 0 in
    let is = lengthens_is s.controller c.is_empty-2.result s.bytes.items (vec_len s.bytes) byte (omega (arith, s.bytes.ok.0)) c.is_empty-2.ensures in
    rw c.in-Err.ensures.items (word_begins s.controller s.bytes.items byte s.sound (is.0 (c.may_stand.ensures.0 c.if-not-may_stand.false)))

pub returns-else-count-bytes-clause-stops : goal.returns-else-count-bytes-clause-stops
returns-else-count-bytes-clause-stops c = λ rest word h.
    let n = c.word_front-count.result.0 in
    c.word_front-count.ensures.stops (omega (arith, c.word_front-count.ensures.within, c.if-count-bytes.false))
    ((word_lengthens c.args.self.now.controller c.extend_from_slice.new.self.items (get_or c.args.bytes.now n 0) rest word h).0)
