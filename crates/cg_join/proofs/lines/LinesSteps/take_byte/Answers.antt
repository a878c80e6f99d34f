use Rattle.std.proofs.Common.{◌≡◌, true, [], ◌∷◌, ◌++◌, ◌∙◌, ap, arith, sym}
use Rattle.cg_join.specs.RepeatLaws.{size_pushed}
use Rattle.cg_join.specs.LinesLaws.{lacks_taken, lacks_same, lines_taken, lines_same, lines_none, lines_next, lines_begins, lines_over}
use Rattle.cg_join.specs.LinesState.{at_hand}
use Rattle.cg_join.specs.LinesStateLaws.{hand_lacks, hand_one, hand_same, through}
use Rattle.cg_join.proofs.lines.LinesSteps.take_byte.Goals as goal

pub invariant_of-self : goal.invariant_of-self
invariant_of-self g c =
    let taken = rw c.in-Ok-true.field-0-test at c.in-Ok-true.ensures.taken in
    let old = c.args.self.now in
    let P = g.T.Token.means old.current in
    let R = g.S.MakeToken.texts old.start in
    let H = at_hand old.begun P R in
    let is = c.renew.ensures.is in
    let lacks = hand_lacks P R old.end old.begun old.lacks old.starts in
    record {
      lacks = lacks_taken old.end H (g.T.Token.means c.step.new.self) c.args.byte (λ rest v. through (taken rest v) (is (c.args.byte ∷ rest) v)) lacks;
      starts = old.starts;
      small = old.small;
      fresh = λ e. absurd (cc);
    }

pub returns-in-Ok-true-clause-taken : goal.returns-in-Ok-true-clause-taken
returns-in-Ok-true-clause-taken g c =
    let taken = rw c.in-Ok-true.field-0-test at c.in-Ok-true.ensures.taken in
    let old = c.args.self.now in
    let P = g.T.Token.means old.current in
    let R = g.S.MakeToken.texts old.start in
    let H = at_hand old.begun P R in
    let is = c.renew.ensures.is in
    lines_taken old.end H (g.T.Token.means c.step.new.self) R c.args.byte c.if-byte-self.true (λ rest v. through (taken rest v) (is (c.args.byte ∷ rest) v)) old.begun old.items.items

pub returns-in-Ok-false-clause-refused : goal.returns-in-Ok-false-clause-refused
returns-in-Ok-false-clause-refused g c =
    let none = rw c.in-Ok-false.field-0-test at c.in-Ok-false.ensures.refused in
    let old = c.args.self.now in
    let P = g.T.Token.means old.current in
    let R = g.S.MakeToken.texts old.start in
    let H = at_hand old.begun P R in
    let is = c.renew.ensures.is in
    lines_none old.end H R c.args.byte (λ rest u h. none rest u ((is (c.args.byte ∷ rest) u).1 h)) (λ e. absurd (c.if-byte-self.true e)) old.begun old.items.items

pub returns-in-Ok-false-clause-same : goal.returns-in-Ok-false-clause-same
returns-in-Ok-false-clause-same g c =
    let same = rw c.in-Ok-false.field-0-test at c.in-Ok-false.ensures.same in
    let old = c.args.self.now in
    let P = g.T.Token.means old.current in
    let R = g.S.MakeToken.texts old.start in
    let H = at_hand old.begun P R in
    let is = c.renew.ensures.is in
    let new = g.T.Token.means c.step.new.self in
    lines_same old.end H (at_hand old.begun new R) R (hand_same P R old.begun new (λ rest v. through (same rest v) (is rest v))) old.begun old.items.items

pub returns-in-Err-clause-same : goal.returns-in-Err-clause-same
returns-in-Err-clause-same g c =
    let same = c.in-Err.ensures.same in
    let old = c.args.self.now in
    let P = g.T.Token.means old.current in
    let R = g.S.MakeToken.texts old.start in
    let H = at_hand old.begun P R in
    let is = c.renew.ensures.is in
    let new = g.T.Token.means c.step.new.self in
    lines_same old.end H (at_hand old.begun new R) R (hand_same P R old.begun new (λ rest v. through (same rest v) (is rest v))) old.begun old.items.items

pub returns-then-not-can_end-clause-refused : goal.returns-then-not-can_end-clause-refused
returns-then-not-can_end-clause-refused g c =
    let old = c.args.self.now in
    let P = g.T.Token.means old.current in
    let R = g.S.MakeToken.texts old.start in
    let H = at_hand old.begun P R in
    let is = c.renew.ensures.is in
    let lacks = hand_lacks P R old.end old.begun old.lacks old.starts in
    let e : c.args.byte ≡ old.end = c.if-byte-self.false in
    let renewed = c.renew.new.current in
    rw e (lines_none old.end H R old.end (λ rest u h. lacks [] rest u h)
    (λ e v h. absurd (let t : g.T.Token.ends renewed ≡ true = (g.T.Token.ends_is renewed).1 (v, (is [] v).1 h) in let f = c.if-not-can_end.true in let q = c.can_end.ensures in cc))
    old.begun old.items.items)

pub returns-clause-taken : goal.returns-clause-taken
returns-clause-taken g c =
    let old = c.args.self.now in
    let P = g.T.Token.means old.current in
    let R = g.S.MakeToken.texts old.start in
    let H = at_hand old.begun P R in
    let is = c.renew.ensures.is in
    let lacks = hand_lacks P R old.end old.begun old.lacks old.starts in
    let v = c.take-value.result in
    let e : c.args.byte ≡ old.end = c.if-byte-self.false in
    let items : c.put.new.items.items ≡ old.items.items ++ v ∷ [] = c.put.ensures ∙ ap (λ x. x ++ v ∷ []) c.make_room.ensures.items in
    let ended = rw c.replace-done.ensures.value at c.take-value.ensures.value in
    let one = hand_one P R old.begun (g.T.Token.one_value old.current) (g.S.MakeToken.one_text old.start) in
    rw (items, e) (lines_next old.end H R R v ((is [] v).0 ended) one lacks (λ rest u. (λ h. h, λ h. h)) old.begun old.items.items)

pub invariant_of-self-2-clause-lacks : goal.invariant_of-self-2-clause-lacks
invariant_of-self-2-clause-lacks g c =
    let old = c.args.self.now in
    rw c.replace-done.ensures.after (lacks_same old.end (g.S.MakeToken.texts old.start) (g.T.Token.means c.start-next.result) c.start-next.ensures.spells.is old.starts)

pub returns-clause-size : goal.returns-clause-size
returns-clause-size g c =
    let old = c.args.self.now in
    let v = c.take-value.result in
    let f = g.T.Token.value_size in
    let size = g.T.Token.size in
    let items : c.put.new.items.items ≡ old.items.items ++ v ∷ [] = c.put.ensures ∙ ap (λ x. x ++ v ∷ []) c.make_room.ensures.items in
    let fresh : size c.replace-done.new.dest ≡ 0 = ap size c.replace-done.ensures.after ∙ c.start-next.ensures.size in
    let done : size c.replace-done.result ≡ size old.current = ap size c.replace-done.ensures.value ∙ c.renew.ensures.size in
    omega (arith, size_pushed f c.put.new.items.items old.items.items v items, fresh, done, c.take-value.ensures.value_size)

pub returns-in-Err-clause-last : goal.returns-in-Err-clause-last
returns-in-Err-clause-last g c =
    let old = c.args.self.now in
    let P = g.T.Token.means old.current in
    let R = g.S.MakeToken.texts old.start in
    let H = at_hand old.begun P R in
    let is = c.renew.ensures.is in
    let last = c.in-Err.ensures.last in
    (lines_begins old.end H R old.items.items old.begun c.args.byte c.if-byte-self.true).0 (last.0, last.1, (is (c.args.byte ∷ last.0) last.1).0 last.2)

pub returns-in-Err-make_room-clause-last : goal.returns-in-Err-make_room-clause-last
returns-in-Err-make_room-clause-last g c =
    let old = c.args.self.now in
    let P = g.T.Token.means old.current in
    let R = g.S.MakeToken.texts old.start in
    let H = at_hand old.begun P R in
    let is = c.renew.ensures.is in
    let lacks = hand_lacks P R old.end old.begun old.lacks old.starts in
    let ended = (g.T.Token.ends_is c.renew.new.current).0 (sym c.can_end.ensures ∙ c.if-not-can_end.false) in
    rw c.if-byte-self.false ((lines_over old.end H R old.items.items old.begun lacks).0 (ended.0, (is [] ended.0).0 ended.1))

pub invariant_of-self-in-Ok-false : goal.invariant_of-self-in-Ok-false
invariant_of-self-in-Ok-false g c =
    let old = c.args.self.now in
    let P = g.T.Token.means old.current in
    let R = g.S.MakeToken.texts old.start in
    let same = rw c.in-Ok-false.field-0-test at c.in-Ok-false.ensures.same in
    let size = rw c.in-Ok-false.field-0-test at c.in-Ok-false.ensures.same_size in
    record {
      lacks = lacks_same old.end (at_hand old.begun P R) (g.T.Token.means c.step.new.self) (λ rest v. through (same rest v) (c.renew.ensures.is rest v)) (hand_lacks P R old.end old.begun old.lacks old.starts);
      starts = old.starts;
      small = old.small;
      fresh = λ h. size ∙ c.renew.ensures.size ∙ old.fresh h;
    }

pub invariant_of-self-in-Err-1 : goal.invariant_of-self-in-Err-1
invariant_of-self-in-Err-1 g c =
    let old = c.args.self.now in
    let P = g.T.Token.means old.current in
    let R = g.S.MakeToken.texts old.start in
    record {
      lacks = lacks_same old.end (at_hand old.begun P R) (g.T.Token.means c.step.new.self) (λ rest v. through (c.in-Err.ensures.same rest v) (c.renew.ensures.is rest v)) (hand_lacks P R old.end old.begun old.lacks old.starts);
      starts = old.starts;
      small = old.small;
      fresh = λ h. c.in-Err.ensures.same_size ∙ c.renew.ensures.size ∙ old.fresh h;
    }

pub invariant_of-self-then-not-can_end : goal.invariant_of-self-then-not-can_end
invariant_of-self-then-not-can_end g c =
    let old = c.args.self.now in
    let P = g.T.Token.means old.current in
    let R = g.S.MakeToken.texts old.start in
    record {
      lacks = lacks_same old.end (at_hand old.begun P R) (g.T.Token.means c.renew.new.current) c.renew.ensures.is (hand_lacks P R old.end old.begun old.lacks old.starts);
      starts = old.starts;
      small = old.small;
      fresh = λ h. c.renew.ensures.size ∙ old.fresh h;
    }

pub returns-then-not-can_end-clause-same : goal.returns-then-not-can_end-clause-same
returns-then-not-can_end-clause-same g c =
    let old = c.args.self.now in
    let P = g.T.Token.means old.current in
    let R = g.S.MakeToken.texts old.start in
    let new = g.T.Token.means c.renew.new.current in
    lines_same old.end (at_hand old.begun P R) (at_hand old.begun new R) R (hand_same P R old.begun new c.renew.ensures.is) old.begun old.items.items

pub invariant_of-self-in-Err-make_room : goal.invariant_of-self-in-Err-make_room
invariant_of-self-in-Err-make_room g c =
    let old = c.args.self.now in
    let P = g.T.Token.means old.current in
    let R = g.S.MakeToken.texts old.start in
    record {
      lacks = lacks_same old.end (at_hand old.begun P R) (g.T.Token.means c.renew.new.current) c.renew.ensures.is (hand_lacks P R old.end old.begun old.lacks old.starts);
      starts = old.starts;
      small = old.small;
      fresh = λ h. c.renew.ensures.size ∙ old.fresh h;
    }

pub returns-in-Err-make_room-clause-same : goal.returns-in-Err-make_room-clause-same
returns-in-Err-make_room-clause-same g c =
    let old = c.args.self.now in
    let P = g.T.Token.means old.current in
    let R = g.S.MakeToken.texts old.start in
    let new = g.T.Token.means c.renew.new.current in
    rw c.make_room.ensures.items (lines_same old.end (at_hand old.begun P R) (at_hand old.begun new R) R (hand_same P R old.begun new c.renew.ensures.is) old.begun old.items.items)
