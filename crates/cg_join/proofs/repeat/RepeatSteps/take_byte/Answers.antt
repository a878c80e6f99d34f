use Rattle.std.proofs.Common.{◌≡◌, true, [], ◌∷◌, ◌++◌, ◌∙◌, ap, arith, refl}
use Rattle.cg_join.specs.RepeatLaws.{stops_taken, stops_same, list_taken, list_same, list_none, list_next, size_pushed}
use Rattle.cg_join.proofs.repeat.RepeatSteps.take_byte.Goals as goal

pub invariant_of-self-in-Ok-true : goal.invariant_of-self-in-Ok-true
invariant_of-self-in-Ok-true g c =
    let taken = rw c.in-Ok-true.field-0-test at c.in-Ok-true.ensures.taken in
    let old = c.args.self.now in
    record {
      stops = stops_taken old.separator (g.T.Token.means old.current) (g.T.Token.means c.step.new.self) c.args.byte taken old.stops;
      starts = old.starts;
      filled = old.filled;
      room = λ _. c.in-Ok.ensures.room;
      small = old.small;
    }

pub returns-in-Ok-true-clause-taken : goal.returns-in-Ok-true-clause-taken
returns-in-Ok-true-clause-taken g c =
    let taken = rw c.in-Ok-true.field-0-test at c.in-Ok-true.ensures.taken in
    let old = c.args.self.now in
    rw c.make_room.ensures.items (list_taken old.separator (g.T.Token.means old.current) (g.T.Token.means c.step.new.self) (g.S.MakeToken.texts old.start) c.args.byte old.stops (g.T.Token.completes c.step.new.self) taken old.items.items)

pub returns-in-Err-step-clause-same : goal.returns-in-Err-step-clause-same
returns-in-Err-step-clause-same g c =
    let old = c.args.self.now in
    rw c.make_room.ensures.items (list_same old.separator (g.T.Token.means old.current) (g.T.Token.means c.step.new.self) (g.S.MakeToken.texts old.start) c.in-Err-step.ensures.same old.items.items)

pub returns-then-byte-self-clause-refused : goal.returns-then-byte-self-clause-refused
returns-then-byte-self-clause-refused g c =
    let none = rw c.in-Ok-false.field-0-test at c.in-Ok-false.ensures.refused in
    let old = c.args.self.now in
    list_none old.separator (g.T.Token.means old.current) (g.S.MakeToken.texts old.start) c.args.byte none (λ e. absurd (c.if-byte-self.true e)) old.items.items

pub returns-then-byte-self-clause-same : goal.returns-then-byte-self-clause-same
returns-then-byte-self-clause-same g c =
    let same = rw c.in-Ok-false.field-0-test at c.in-Ok-false.ensures.same in
    let old = c.args.self.now in
    rw c.make_room.ensures.items (list_same old.separator (g.T.Token.means old.current) (g.T.Token.means c.step.new.self) (g.S.MakeToken.texts old.start) same old.items.items)

pub returns-then-not-can_end-clause-refused : goal.returns-then-not-can_end-clause-refused
returns-then-not-can_end-clause-refused g c =
    let none = rw c.in-Ok-false.field-0-test at c.in-Ok-false.ensures.refused in
    let same = rw c.in-Ok-false.field-0-test at c.in-Ok-false.ensures.same in
    let old = c.args.self.now in
    list_none old.separator (g.T.Token.means old.current) (g.S.MakeToken.texts old.start) c.args.byte none
    (λ e v h. absurd (let t : g.T.Token.ends c.step.new.self ≡ true = (g.T.Token.ends_is c.step.new.self).1 (v, (same [] v).1 h) in let f = c.if-not-can_end.true in let q = c.can_end.ensures in cc))
    old.items.items

pub returns-then-not-can_end-clause-same : goal.returns-then-not-can_end-clause-same
returns-then-not-can_end-clause-same g c =
    let same = rw c.in-Ok-false.field-0-test at c.in-Ok-false.ensures.same in
    let old = c.args.self.now in
    rw c.make_room.ensures.items (list_same old.separator (g.T.Token.means old.current) (g.T.Token.means c.step.new.self) (g.S.MakeToken.texts old.start) same old.items.items)

pub returns-clause-taken : goal.returns-clause-taken
returns-clause-taken g c =
    let none = rw c.in-Ok-false.field-0-test at c.in-Ok-false.ensures.refused in
    let same = rw c.in-Ok-false.field-0-test at c.in-Ok-false.ensures.same in
    let old = c.args.self.now in
    let v = c.take-value.result in
    let e : c.args.byte ≡ old.separator = c.if-byte-self.false in
    let items : c.put.new.items.items ≡ old.items.items ++ v ∷ [] = c.put.ensures ∙ ap (λ x. x ++ v ∷ []) c.make_room.ensures.items in
    let ended = (same [] v).0 (rw c.replace-done.ensures.value at c.take-value.ensures.value) in
    rw (items, c.replace-done.ensures.after, e)
    (list_next old.separator (g.T.Token.means old.current) (g.T.Token.means c.start-next.result) (g.S.MakeToken.texts old.start) v ended (g.T.Token.one_value old.current) (rw e at none) c.start-next.ensures.spells.is old.items.items)

pub invariant_of-self-2-clause-stops : goal.invariant_of-self-2-clause-stops
invariant_of-self-2-clause-stops g c =
    let old = c.args.self.now in
    rw c.replace-done.ensures.after (stops_same old.separator (g.S.MakeToken.texts old.start) (g.T.Token.means c.start-next.result) c.start-next.ensures.spells.is old.starts)

pub invariant_of-self-2-clause-room : goal.invariant_of-self-2-clause-room
invariant_of-self-2-clause-room g c =
    let old = c.args.self.now in
    let next = c.start-next.result in
    rw c.replace-done.ensures.after
    (λ e. absurd (let v = (g.T.Token.ends_is next).0 e in old.filled v.0 ((c.start-next.ensures.spells.is [] v.0).0 v.1)))

pub returns-clause-size : goal.returns-clause-size
returns-clause-size g c =
    let old = c.args.self.now in
    let v = c.take-value.result in
    let f = g.T.Token.value_size in
    let size = g.T.Token.size in
    let items : c.put.new.items.items ≡ old.items.items ++ v ∷ [] = c.put.ensures ∙ ap (λ x. x ++ v ∷ []) c.make_room.ensures.items in
    let same = rw c.in-Ok-false.field-0-test at c.in-Ok-false.ensures.same_size in
    let fresh : size c.replace-done.new.dest ≡ 0 = ap size c.replace-done.ensures.after ∙ c.start-next.ensures.size in
    let done : size c.replace-done.result ≡ size old.current = ap size c.replace-done.ensures.value ∙ same in
    omega (arith, size_pushed f c.put.new.items.items old.items.items v items, fresh, done, c.take-value.ensures.value_size)

pub returns-else-allowed-clause-refused : goal.returns-else-allowed-clause-refused
returns-else-allowed-clause-refused g c rest v h =
    let same = c.in-Err.ensures.items in
    let allowed : c.allows-allowed.result ≡ true = c.allows-allowed.ensures.1 (rest, v, rw same h) in
    let differs = c.if-allowed.false in
    absurd {A = ⊥} (cc)

pub returns-in-Err-step-clause-last : goal.returns-in-Err-step-clause-last
returns-in-Err-step-clause-last g c =
    let old = c.args.self.now in
    let b = c.in-Err-step.ensures.last in
    (b.0, old.items.items ++ b.1 ∷ [], (b.1 ∷ [], refl, b.2))

pub returns-then-allowed-clause-last : goal.returns-then-allowed-clause-last
returns-then-allowed-clause-last g c =
    let old = c.args.self.now in
    let same = c.in-Err.ensures.items in
    rw (← same) (c.allows-allowed.ensures.0 c.if-allowed.true)
