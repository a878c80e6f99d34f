use Rattle.std.proofs.Common.{◌≡◌, true, [], ◌+◌, arith, refl, eqb, eqb-true, eq-eqb}
use Rattle.cg_join.specs.Repeat.{items_size}
use Rattle.cg_join.specs.RepeatLaws.{stops_taken, stops_same}
use Rattle.cg_join.specs.LinesLaws.{lacks_same}
use Rattle.cg_join.specs.Pairs.{IsPairText, pair_size}
use Rattle.cg_join.specs.PairsState.{WordAtHand, before_last}
use Rattle.cg_join.specs.PairsLaws.{pair_alike, pair_step, paired_ended, value_one, value_step, value_step_refused, value_step_same, value_begins, new_pair}
use Rattle.cg_join.specs.PairsStateLaws.{completed_distinct, completed_size, last_word, one_last, distinct_before}
use Rattle.cg_join.specs.declared.pairs.Stage.TheVariants.{InWord, InValue}
use Rattle.cg_join.specs.WordStartLaws.{SpellsWord, new_word_text}
use Rattle.cg_text.specs.contracts.word.WordTextToken.TheImpl as word_text
use Rattle.cg_join.proofs.pairs.DistinctPairs.step_value.Goals as goal

word_not_value : InWord ≡ InValue → ⊥
word_not_value e = cc

pub invariant_of-self : goal.invariant_of-self
invariant_of-self g c =
    let old = c.args.self.now in
    let taken = rw c.in-Ok-true.field-0-test at c.in-Ok-true.ensures.taken in
    record {
      lacks = old.lacks;
      words_lack = old.words_lack;
      stops = stops_taken old.separator (g.V.Token.means old.value) (g.V.Token.means c.step.new.self) c.args.byte taken old.stops;
      values_stop = old.values_stop;
      small_separator = old.small_separator;
      small_delimiter = old.small_delimiter;
      begun = old.begun;
      awaits = old.awaits;
      new_word = old.new_word;
      distinct = old.distinct;
    }

pub returns-in-Ok-true-clause-taken : goal.returns-in-Ok-true-clause-taken
returns-in-Ok-true-clause-taken g c =
    let old = c.args.self.now in
    let w = g.F.Pairing.word_of in
    let v = g.F.Pairing.value_of in
    let paired = g.F.Pairing.paired in
    let hw = g.F.Pairing.has_word in
    let hv = g.F.Pairing.has_value in
    let K = WordAtHand w InValue old.items.items (word_text.ghosts.means old.word) in
    let D = g.V.Token.means old.value in
    let R = IsPairText w v (SpellsWord old.words.controller) (g.B.MakeToken.texts old.values) old.delimiter in
    let front = before_last old.items.items in
    let taken = rw c.in-Ok-true.field-0-test at c.in-Ok-true.ensures.taken in
    let D' = g.V.Token.means c.step.new.self in
    let k = last_word w old.items.items (old.begun c.requires) old.distinct in
    let d = g.V.Token.completes c.step.new.self in
    rw c.requires
    (value_step w v old.delimiter old.separator front R K D D' c.args.byte old.stops (d.0, paired k.0 d.1, paired_ended w v paired hw hv K D' d.0 k.0 d.1 k.1 d.2) taken)

pub returns-in-Err-clause-same : goal.returns-in-Err-clause-same
returns-in-Err-clause-same g c =
    let old = c.args.self.now in
    let w = g.F.Pairing.word_of in
    let v = g.F.Pairing.value_of in
    let paired = g.F.Pairing.paired in
    let hw = g.F.Pairing.has_word in
    let hv = g.F.Pairing.has_value in
    let K = WordAtHand w InValue old.items.items (word_text.ghosts.means old.word) in
    let D = g.V.Token.means old.value in
    let R = IsPairText w v (SpellsWord old.words.controller) (g.B.MakeToken.texts old.values) old.delimiter in
    let front = before_last old.items.items in
    rw c.requires (value_step_same w v old.delimiter old.separator front R K D (g.V.Token.means c.step.new.self) c.in-Err.ensures.same)

pub returns-then-byte-self-clause-refused : goal.returns-then-byte-self-clause-refused
returns-then-byte-self-clause-refused g c =
    let old = c.args.self.now in
    let w = g.F.Pairing.word_of in
    let v = g.F.Pairing.value_of in
    let paired = g.F.Pairing.paired in
    let hw = g.F.Pairing.has_word in
    let hv = g.F.Pairing.has_value in
    let K = WordAtHand w InValue old.items.items (word_text.ghosts.means old.word) in
    let D = g.V.Token.means old.value in
    let R = IsPairText w v (SpellsWord old.words.controller) (g.B.MakeToken.texts old.values) old.delimiter in
    let front = before_last old.items.items in
    let none = rw c.in-Ok-false.field-0-test at c.in-Ok-false.ensures.refused in
    rw c.requires (value_step_refused w v old.delimiter old.separator front R K D c.args.byte none (λ e. absurd (c.if-byte-self.true e)))

pub returns-then-byte-self-clause-same : goal.returns-then-byte-self-clause-same
returns-then-byte-self-clause-same g c =
    let old = c.args.self.now in
    let w = g.F.Pairing.word_of in
    let v = g.F.Pairing.value_of in
    let paired = g.F.Pairing.paired in
    let hw = g.F.Pairing.has_word in
    let hv = g.F.Pairing.has_value in
    let K = WordAtHand w InValue old.items.items (word_text.ghosts.means old.word) in
    let D = g.V.Token.means old.value in
    let R = IsPairText w v (SpellsWord old.words.controller) (g.B.MakeToken.texts old.values) old.delimiter in
    let front = before_last old.items.items in
    let same = rw c.in-Ok-false.field-0-test at c.in-Ok-false.ensures.same in
    rw c.requires (value_step_same w v old.delimiter old.separator front R K D (g.V.Token.means c.step.new.self) same)

pub returns-then-not-can_end-clause-refused : goal.returns-then-not-can_end-clause-refused
returns-then-not-can_end-clause-refused g c =
    let old = c.args.self.now in
    let w = g.F.Pairing.word_of in
    let v = g.F.Pairing.value_of in
    let paired = g.F.Pairing.paired in
    let hw = g.F.Pairing.has_word in
    let hv = g.F.Pairing.has_value in
    let K = WordAtHand w InValue old.items.items (word_text.ghosts.means old.word) in
    let D = g.V.Token.means old.value in
    let R = IsPairText w v (SpellsWord old.words.controller) (g.B.MakeToken.texts old.values) old.delimiter in
    let front = before_last old.items.items in
    let none = rw c.in-Ok-false.field-0-test at c.in-Ok-false.ensures.refused in
    let same = rw c.in-Ok-false.field-0-test at c.in-Ok-false.ensures.same in
    rw c.requires (value_step_refused w v old.delimiter old.separator front R K D c.args.byte none
    (λ e x h. absurd (let t : g.V.Token.ends c.step.new.self ≡ true = (g.V.Token.ends_is c.step.new.self).1 (x, (same [] x).1 h) in let f = c.if-not-can_end.true in let q = c.can_end.ensures in cc)))

pub returns-then-not-can_end-clause-same : goal.returns-then-not-can_end-clause-same
returns-then-not-can_end-clause-same g c =
    let old = c.args.self.now in
    let w = g.F.Pairing.word_of in
    let v = g.F.Pairing.value_of in
    let paired = g.F.Pairing.paired in
    let hw = g.F.Pairing.has_word in
    let hv = g.F.Pairing.has_value in
    let K = WordAtHand w InValue old.items.items (word_text.ghosts.means old.word) in
    let D = g.V.Token.means old.value in
    let R = IsPairText w v (SpellsWord old.words.controller) (g.B.MakeToken.texts old.values) old.delimiter in
    let front = before_last old.items.items in
    let same = rw c.in-Ok-false.field-0-test at c.in-Ok-false.ensures.same in
    rw c.requires (value_step_same w v old.delimiter old.separator front R K D (g.V.Token.means c.step.new.self) same)

pub invariant_of-self-2 : goal.invariant_of-self-2
invariant_of-self-2 g c =
    let old = c.args.self.now in
    let w = g.F.Pairing.word_of in
    let v = g.F.Pairing.value_of in
    let paired = g.F.Pairing.paired in
    let hw = g.F.Pairing.has_word in
    let hv = g.F.Pairing.has_value in
    let K = word_text.ghosts.means old.word in
    let D = g.V.Token.means old.value in
    let R = IsPairText w v (SpellsWord old.words.controller) (g.B.MakeToken.texts old.values) old.delimiter in
    let done = c.complete_last.ensures in
    let new = c.complete_last.new.items.items in
    let f = pair_size w v word_text.ghosts.value_size g.V.Token.value_size in
    let value_size : items_size f new ≡ items_size f old.items.items + g.V.Token.value_size c.renew-value.result =
    completed_size w v word_text.ghosts.value_size g.V.Token.value_size old.items.items new c.renew-value.result
    done (old.awaits c.requires) in
    record {
      lacks = lacks_same old.delimiter (SpellsWord old.words.controller) (word_text.ghosts.means c.start.result) c.start.ensures.spells.is old.words_lack;
      words_lack = old.words_lack;
      stops = stops_same old.separator (g.B.MakeToken.texts old.values) (g.V.Token.means c.renew-value.new.token) c.renew-value.ensures.spells.is old.values_stop;
      values_stop = old.values_stop;
      small_separator = old.small_separator;
      small_delimiter = old.small_delimiter;
      begun = λ e. absurd (word_not_value e);
      awaits = λ e. absurd (word_not_value e);
      new_word = λ other. absurd (other refl);
      distinct = completed_distinct w v old.items.items new c.renew-value.result done old.distinct;
    }

pub returns-clause-taken : goal.returns-clause-taken
returns-clause-taken g c =
    let old = c.args.self.now in
    let w = g.F.Pairing.word_of in
    let v = g.F.Pairing.value_of in
    let paired = g.F.Pairing.paired in
    let hw = g.F.Pairing.has_word in
    let hv = g.F.Pairing.has_value in
    let K = WordAtHand w InValue old.items.items (word_text.ghosts.means old.word) in
    let D = g.V.Token.means old.value in
    let R = IsPairText w v (SpellsWord old.words.controller) (g.B.MakeToken.texts old.values) old.delimiter in
    let front = before_last old.items.items in
    let none = rw c.in-Ok-false.field-0-test at c.in-Ok-false.ensures.refused in
    let same = rw c.in-Ok-false.field-0-test at c.in-Ok-false.ensures.same in
    let done = c.complete_last.ensures in
    let p = done.pair in
    let F = IsPairText w v (word_text.ghosts.means c.start.result) (g.V.Token.means c.renew-value.new.token) old.delimiter in
    rw (done.items, c.requires, c.if-byte-self.false)
    (pair_step w v old.delimiter old.separator front R K D F p done.has_word (rw done.has_value ((same [] c.renew-value.result).0 c.renew-value.ensures.value))
    (value_one w v K old.delimiter paired g.F.Pairing.whole D (one_last w old.items.items) (g.V.Token.one_value old.value)) (rw c.if-byte-self.false at none)
    (pair_alike w v old.delimiter (SpellsWord old.words.controller) (word_text.ghosts.means c.start.result) (g.B.MakeToken.texts old.values) (g.V.Token.means c.renew-value.new.token) c.start.ensures.spells.is c.renew-value.ensures.spells.is))

pub returns-clause-size : goal.returns-clause-size
returns-clause-size g c =
    let old = c.args.self.now in
    let w = g.F.Pairing.word_of in
    let v = g.F.Pairing.value_of in
    let paired = g.F.Pairing.paired in
    let hw = g.F.Pairing.has_word in
    let hv = g.F.Pairing.has_value in
    let K = word_text.ghosts.means old.word in
    let D = g.V.Token.means old.value in
    let R = IsPairText w v (SpellsWord old.words.controller) (g.B.MakeToken.texts old.values) old.delimiter in
    let same_size = rw c.in-Ok-false.field-0-test at c.in-Ok-false.ensures.same_size in
    let value_size = completed_size w v word_text.ghosts.value_size g.V.Token.value_size old.items.items c.complete_last.new.items.items c.renew-value.result c.complete_last.ensures (old.awaits c.requires) in
    omega (arith, value_size, same_size, c.start.ensures.size, c.renew-value.ensures.size, c.renew-value.ensures.value_size)

pub returns-in-Err-clause-last : goal.returns-in-Err-clause-last
returns-in-Err-clause-last g c =
    let old = c.args.self.now in
    let w = g.F.Pairing.word_of in
    let v = g.F.Pairing.value_of in
    let paired = g.F.Pairing.paired in
    let hw = g.F.Pairing.has_word in
    let hv = g.F.Pairing.has_value in
    let D = g.V.Token.means old.value in
    let R = IsPairText w v (SpellsWord old.words.controller) (g.B.MakeToken.texts old.values) old.delimiter in
    let K = WordAtHand w InValue old.items.items (word_text.ghosts.means old.word) in
    rw c.requires ((value_begins w v paired hw hv old.delimiter old.separator (before_last old.items.items) R K D (distinct_before w old.items.items old.distinct) c.args.byte true (eqb c.args.byte old.separator) (g.V.Token.ends old.value)
    (λ e. c.in-Err.ensures.last, λ h. refl) (λ e. eqb-true c.args.byte old.separator e, λ e. eq-eqb c.args.byte old.separator e) (g.V.Token.ends_is old.value)
    (last_word w old.items.items (old.begun c.requires) old.distinct)
    (new_pair w v paired hw hv old.delimiter (SpellsWord old.words.controller) (g.B.MakeToken.texts old.values)
    (new_word_text old.words.controller) (g.met.B.MakeToken.some_text old.values))).0 refl)
