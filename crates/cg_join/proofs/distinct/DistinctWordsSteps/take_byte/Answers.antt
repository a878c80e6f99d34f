use Rattle.std.proofs.Common.{◌≡◌, true, false, [], ◌∷◌, ◌++◌, sym, ◌∙◌, ap, arith, refl}
use Rattle.cg_join.specs.RepeatLaws.{stops_taken, stops_same, list_taken, list_same, list_none, list_next, size_pushed}
use Rattle.cg_join.specs.Distinct.{any_value}
use Rattle.cg_join.specs.DistinctLaws.{with_distinct, distinct_dup, distinct_pushed, new_value, distinct_push}
use Rattle.cg_join.specs.TakenLaws.{any_own, own_lack}
use Rattle.cg_text.specs.WordState.{is_taken}
use Rattle.cg_join.specs.WordStartLaws.{SpellsWord, word_new, taken_is}
use Rattle.cg_text.specs.contracts.word.WordTextToken.TheImpl as word_text
use Rattle.cg_join.proofs.distinct.DistinctWordsSteps.take_byte.Goals as goal

pub invariant_of-self-in-Ok-true : goal.invariant_of-self-in-Ok-true
invariant_of-self-in-Ok-true c =
    let taken = rw c.in-Ok-true.field-0-test at c.in-Ok-true.ensures.taken in
    let old = c.args.self.now in
    record {
      stops = stops_taken old.separator (word_text.ghosts.means old.current) (word_text.ghosts.means c.step.new.self) c.args.byte taken old.stops;
      starts = old.starts;
      filled = old.filled;
      room = λ _. c.in-Ok.ensures.room;
      small = old.small;
      distinct = rw c.reserve.ensures.items old.distinct;
    }

pub returns-in-Ok-true-clause-taken : goal.returns-in-Ok-true-clause-taken
returns-in-Ok-true-clause-taken c =
    let taken = rw c.in-Ok-true.field-0-test at c.in-Ok-true.ensures.taken in
    let old = c.args.self.now in
    rw c.reserve.ensures.items (λ rest all. with_distinct
    (list_taken old.separator (word_text.ghosts.means old.current) (word_text.ghosts.means c.step.new.self)
    (SpellsWord old.start.controller) c.args.byte old.stops
    (word_text.ghosts.completes c.step.new.self) taken old.items.items rest all))

pub returns-in-Err-step-clause-same : goal.returns-in-Err-step-clause-same
returns-in-Err-step-clause-same c =
    let old = c.args.self.now in
    rw c.reserve.ensures.items (λ rest all. with_distinct
    (list_same old.separator (word_text.ghosts.means old.current) (word_text.ghosts.means c.step.new.self)
    (SpellsWord old.start.controller) c.in-Err-step.ensures.same old.items.items rest all))

pub returns-then-byte-self-clause-refused : goal.returns-then-byte-self-clause-refused
returns-then-byte-self-clause-refused c =
    let none = rw c.in-Ok-false.field-0-test at c.in-Ok-false.ensures.refused in
    let old = c.args.self.now in
    λ rest all h. list_none old.separator (word_text.ghosts.means old.current) (SpellsWord old.start.controller) c.args.byte none (λ e. absurd (c.if-byte-self.true e)) old.items.items rest all h.0

pub returns-then-not-can_end-clause-refused : goal.returns-then-not-can_end-clause-refused
returns-then-not-can_end-clause-refused c =
    let none = rw c.in-Ok-false.field-0-test at c.in-Ok-false.ensures.refused in
    let same = rw c.in-Ok-false.field-0-test at c.in-Ok-false.ensures.same in
    let old = c.args.self.now in
    λ rest all h. list_none old.separator (word_text.ghosts.means old.current) (SpellsWord old.start.controller) c.args.byte none
    (λ e v h. absurd (let t : word_text.ghosts.ends c.step.new.self ≡ true = (word_text.ghosts.ends_is c.step.new.self).1 (v, (same [] v).1 h) in let f = c.if-not-can_end.true in let q = c.can_end.ensures in cc))
    old.items.items rest all h.0

pub returns-then-byte-self-clause-same : goal.returns-then-byte-self-clause-same
returns-then-byte-self-clause-same c =
    let same = rw c.in-Ok-false.field-0-test at c.in-Ok-false.ensures.same in
    let old = c.args.self.now in
    rw c.reserve.ensures.items (λ rest all. with_distinct (list_same old.separator (word_text.ghosts.means old.current) (word_text.ghosts.means c.step.new.self) (SpellsWord old.start.controller) same old.items.items rest all))

pub returns-then-not-can_end-clause-same : goal.returns-then-not-can_end-clause-same
returns-then-not-can_end-clause-same c =
    let same = rw c.in-Ok-false.field-0-test at c.in-Ok-false.ensures.same in
    let old = c.args.self.now in
    rw c.reserve.ensures.items (λ rest all. with_distinct (list_same old.separator (word_text.ghosts.means old.current) (word_text.ghosts.means c.step.new.self) (SpellsWord old.start.controller) same old.items.items rest all))

pub returns-then-has-clause-same : goal.returns-then-has-clause-same
returns-then-has-clause-same c =
    let same = rw c.in-Ok-false.field-0-test at c.in-Ok-false.ensures.same in
    let old = c.args.self.now in
    rw c.reserve.ensures.items (λ rest all. with_distinct (list_same old.separator (word_text.ghosts.means old.current) (word_text.ghosts.means c.step.new.self) (SpellsWord old.start.controller) same old.items.items rest all))

pub returns-clause-taken : goal.returns-clause-taken
returns-clause-taken c =
    let none = rw c.in-Ok-false.field-0-test at c.in-Ok-false.ensures.refused in
    let same = rw c.in-Ok-false.field-0-test at c.in-Ok-false.ensures.same in
    let old = c.args.self.now in
    let v = c.take-value.result in
    let e : c.args.byte ≡ old.separator = c.if-byte-self.false in
    let items : c.push.new.self.items ≡ old.items.items ++ v ∷ [] = c.push.ensures ∙ ap (λ x. x ++ v ∷ []) c.reserve.ensures.items in
    let ended = (same [] v).0 (rw c.replace-done.ensures.value at c.take-value.ensures.value) in
    rw (items, c.replace-done.ensures.after, e)
    (λ rest all. with_distinct (list_next old.separator (word_text.ghosts.means old.current)
    (word_text.ghosts.means c.start-next.result) (SpellsWord old.start.controller) v ended
    (word_text.ghosts.one_value old.current)
    (rw e at none) c.start-next.ensures.spells.is old.items.items rest all))

pub invariant_of-self-2-clause-stops : goal.invariant_of-self-2-clause-stops
invariant_of-self-2-clause-stops c =
    let old = c.args.self.now in
    rw c.replace-done.ensures.after (stops_same old.separator (SpellsWord old.start.controller) (word_text.ghosts.means c.start-next.result) c.start-next.ensures.spells.is old.starts)

pub invariant_of-self-2-clause-room : goal.invariant_of-self-2-clause-room
invariant_of-self-2-clause-room c =
    let old = c.args.self.now in
    let next = c.start-next.result in
    rw c.replace-done.ensures.after
    (λ e. absurd (let v = (word_text.ghosts.ends_is next).0 e in old.filled v.0 ((c.start-next.ensures.spells.is [] v.0).0 v.1)))

pub returns-clause-size : goal.returns-clause-size
returns-clause-size c =
    let old = c.args.self.now in
    let v = c.take-value.result in
    let f = word_text.ghosts.value_size in
    let size = word_text.ghosts.size in
    let items : c.push.new.self.items ≡ old.items.items ++ v ∷ [] = c.push.ensures ∙ ap (λ x. x ++ v ∷ []) c.reserve.ensures.items in
    let same = rw c.in-Ok-false.field-0-test at c.in-Ok-false.ensures.same_size in
    let fresh : size c.replace-done.new.dest ≡ 0 = ap size c.replace-done.ensures.after ∙ c.start-next.ensures.size in
    let done : size c.replace-done.result ≡ size old.current = ap size c.replace-done.ensures.value ∙ same in
    omega (arith, size_pushed f c.push.new.self.items old.items.items v items, fresh, done, c.take-value.ensures.value_size)

pub returns-then-has-clause-refused : goal.returns-then-has-clause-refused
returns-then-has-clause-refused c =
    let none = rw c.in-Ok-false.field-0-test at c.in-Ok-false.ensures.refused in
    let same = rw c.in-Ok-false.field-0-test at c.in-Ok-false.ensures.same in
    let old = c.args.self.now in
    let e : c.args.byte ≡ old.separator = c.if-byte-self.false in
    let f = is_taken c.step.new.self.bytes.items in
    let there : any_value f old.items.items ≡ true = sym (any_own f old.items.items c.reserve.new.self.items c.reserve.ensures.items) ∙ sym c.has.ensures ∙ c.if-has.true in
    rw e (λ rest all. distinct_dup (word_text.ghosts.means old.current) (SpellsWord old.start.controller) old.separator old.items.items f
    (λ x t. (same [] x).0 ((taken_is c.step.new.self.controller c.step.new.self.bytes.items c.step.new.self.sound x).0 t)) there (word_text.ghosts.one_value old.current) (rw e at none) rest all)

pub push-requires-clause-new : goal.push-requires-clause-new
push-requires-clause-new c =
    let old = c.args.self.now in
    let v = c.take-value.result in
    let token = c.step.new.self in
    let f = is_taken token.bytes.items in
    let there : any_value f old.items.items ≡ false = sym (any_own f old.items.items c.reserve.new.self.items c.reserve.ensures.items) ∙ sym c.has.ensures ∙ c.if-has.false in
    let ended = rw c.replace-done.ensures.value at c.take-value.ensures.value in
    own_lack v old.items.items c.reserve.new.self.items c.reserve.ensures.items
    (new_value (word_text.ghosts.means token) (SpellsWord old.start.controller) old.separator old.items.items f (taken_is token.controller token.bytes.items token.sound) there v ended)

pub invariant_of-self-2-clause-distinct : goal.invariant_of-self-2-clause-distinct
invariant_of-self-2-clause-distinct c =
    let old = c.args.self.now in
    let v = c.take-value.result in
    let items : c.push.new.self.items ≡ old.items.items ++ v ∷ [] = c.push.ensures ∙ ap (λ x. x ++ v ∷ []) c.reserve.ensures.items in
    let f = is_taken c.step.new.self.bytes.items in
    let there : any_value f old.items.items ≡ false = sym (any_own f old.items.items c.reserve.new.self.items c.reserve.ensures.items) ∙ sym c.has.ensures ∙ c.if-has.false in
    let ended = rw c.replace-done.ensures.value at c.take-value.ensures.value in
    distinct_pushed old.items.items c.push.new.self.items v items old.distinct
    (new_value (word_text.ghosts.means c.step.new.self)
    (SpellsWord old.start.controller) old.separator old.items.items f
    (taken_is c.step.new.self.controller c.step.new.self.bytes.items c.step.new.self.sound) there v ended)

pub returns-in-Err-step-clause-last : goal.returns-in-Err-step-clause-last
returns-in-Err-step-clause-last c =
    let old = c.args.self.now in
    let l = word_new old.current.controller old.current.bytes.items (c.args.byte ∷ []) c.in-Err-step.ensures.last old.items.items in
    (l.0, old.items.items ++ l.1 ∷ [], ((l.1 ∷ [], refl, l.2), distinct_push old.items.items l.1 old.distinct l.3))

pub returns-then-allowed-clause-last : goal.returns-then-allowed-clause-last
returns-then-allowed-clause-last c =
    let old = c.args.self.now in
    let same = c.in-Err.ensures.items in
    rw (← same) (c.allows-allowed.ensures.0 c.if-allowed.true)
