use Rattle.std.proofs.Common.{◌≡◌, true, false, not, [], ◌∷◌, ◌++◌, map, refl, sym, ◌∙◌, ap, arith}
use Rattle.cg_text.specs.TokenLaws.{if_err_as}
use Rattle.cg_join.specs.RepeatLaws.{size_pushed}
use Rattle.cg_join.specs.Distinct.{any_value}
use Rattle.cg_join.specs.DistinctLaws.{lacks_value}
use Rattle.cg_join.specs.LinesLaws.{lacks_same}
use Rattle.cg_join.specs.Pairs.{IsPairText, pair_size}
use Rattle.cg_join.specs.PairsLaws.{lacks_stepped, delimiter_refused, old_word_refused, paired_rest, word_step_refused, word_step_same, word_step_taken, words_pushed, word_begins, delimiter_begins}
use Rattle.cg_join.specs.PairsStateLaws.{delimiter_pushed, some_last, size_last}
use Rattle.cg_join.specs.declared.pairs.Stage.{Stage}
use Rattle.cg_join.specs.declared.pairs.Stage.TheVariants.{InWord, InValue}
use Rattle.cg_text.specs.WordState.{is_taken}
use Rattle.cg_join.specs.WordStartLaws.{SpellsWord, word_new, taken_is}
use Rattle.cg_text.specs.contracts.word.WordTextToken.TheImpl as word_text
use Rattle.cg_join.proofs.pairs.DistinctPairs.step_word.Goals as goal

word_not_value : (s : Stage) → s ≡ InWord → s ≡ InValue → ⊥
word_not_value s e f = cc

pub invariant_of-self : goal.invariant_of-self
invariant_of-self g c =
    let old = c.args.self.now in
    record {
      lacks = lacks_stepped old.delimiter c.step.result (word_text.ghosts.means old.word) (word_text.ghosts.means c.step.new.self) c.args.byte c.step.ensures.taken c.step.ensures.same old.lacks;
      words_lack = old.words_lack;
      stops = old.stops;
      values_stop = old.values_stop;
      small_separator = old.small_separator;
      small_delimiter = old.small_delimiter;
      begun = old.begun;
      awaits = old.awaits;
      new_word = λ other. absurd (other c.requires);
      distinct = old.distinct;
    }

pub returns-then-byte-self-clause-taken : goal.returns-then-byte-self-clause-taken
returns-then-byte-self-clause-taken g c =
    let old = c.args.self.now in
    let w = g.F.Pairing.word_of in
    let v = g.F.Pairing.value_of in
    let paired = g.F.Pairing.paired in
    let hw = g.F.Pairing.has_word in
    let hv = g.F.Pairing.has_value in
    let K = word_text.ghosts.means old.word in
    let D = g.V.Token.means old.value in
    let R = IsPairText w v (SpellsWord old.words.controller) (g.B.MakeToken.texts old.values) old.delimiter in
    let K' = word_text.ghosts.means c.step.new.self in
    let k = word_text.ghosts.completes c.step.new.self in
    let d = g.V.Token.completes old.value in
    rw c.requires
    (word_step_taken w v old.delimiter old.separator old.items.items R K D c.step.result K' c.args.byte c.if-byte-self.true old.lacks old.stops
    (k.0 ++ old.delimiter ∷ d.0, paired k.1 d.1, paired_rest w v paired hw hv K' D old.delimiter k.0 d.0 k.1 d.1 k.2 d.2) c.step.ensures.taken)

pub returns-then-byte-self-clause-refused : goal.returns-then-byte-self-clause-refused
returns-then-byte-self-clause-refused g c =
    let old = c.args.self.now in
    let w = g.F.Pairing.word_of in
    let v = g.F.Pairing.value_of in
    let paired = g.F.Pairing.paired in
    let hw = g.F.Pairing.has_word in
    let hv = g.F.Pairing.has_value in
    let K = word_text.ghosts.means old.word in
    let D = g.V.Token.means old.value in
    let R = IsPairText w v (SpellsWord old.words.controller) (g.B.MakeToken.texts old.values) old.delimiter in
    rw c.requires (word_step_refused w v old.delimiter old.separator old.items.items R K D c.step.result c.args.byte c.if-byte-self.true c.step.ensures.refused)

pub returns-then-byte-self-clause-same : goal.returns-then-byte-self-clause-same
returns-then-byte-self-clause-same g c =
    let old = c.args.self.now in
    let w = g.F.Pairing.word_of in
    let v = g.F.Pairing.value_of in
    let paired = g.F.Pairing.paired in
    let hw = g.F.Pairing.has_word in
    let hv = g.F.Pairing.has_value in
    let K = word_text.ghosts.means old.word in
    let D = g.V.Token.means old.value in
    let R = IsPairText w v (SpellsWord old.words.controller) (g.B.MakeToken.texts old.values) old.delimiter in
    rw c.requires (word_step_same w v old.delimiter old.separator old.items.items R K D c.step.result (word_text.ghosts.means c.step.new.self) c.step.ensures.same)

pub returns-then-not-can_end-clause-refused : goal.returns-then-not-can_end-clause-refused
returns-then-not-can_end-clause-refused g c =
    let old = c.args.self.now in
    let w = g.F.Pairing.word_of in
    let v = g.F.Pairing.value_of in
    let paired = g.F.Pairing.paired in
    let hw = g.F.Pairing.has_word in
    let hv = g.F.Pairing.has_value in
    let K = word_text.ghosts.means old.word in
    let D = g.V.Token.means old.value in
    let R = IsPairText w v (SpellsWord old.words.controller) (g.B.MakeToken.texts old.values) old.delimiter in
    rw (c.requires, c.if-byte-self.false)
    (delimiter_refused w v old.delimiter old.separator old.items.items R K D old.lacks
    (λ x h. absurd (let t : word_text.ghosts.ends old.word ≡ true = (word_text.ghosts.ends_is old.word).1 (x, h) in let f = c.if-not-can_end.true in let q = c.can_end.ensures in cc)))

pub returns-then-is_old_word-clause-refused : goal.returns-then-is_old_word-clause-refused
returns-then-is_old_word-clause-refused g c =
    let old = c.args.self.now in
    let w = g.F.Pairing.word_of in
    let v = g.F.Pairing.value_of in
    let paired = g.F.Pairing.paired in
    let hw = g.F.Pairing.has_word in
    let hv = g.F.Pairing.has_value in
    let K = word_text.ghosts.means old.word in
    let D = g.V.Token.means old.value in
    let R = IsPairText w v (SpellsWord old.words.controller) (g.B.MakeToken.texts old.values) old.delimiter in
    let f = is_taken old.word.bytes.items in
    let there : any_value f (map w old.items.items) ≡ true = sym c.is_old_word.ensures ∙ c.if-is_old_word.true in
    rw (c.requires, c.if-byte-self.false)
    (old_word_refused w v old.delimiter old.separator old.items.items R K D old.lacks (word_text.ghosts.one_value old.word) f (λ x t. (taken_is old.word.controller old.word.bytes.items old.word.sound x).0 t) there)

pub returns-in-Err-clause-same : goal.returns-in-Err-clause-same
returns-in-Err-clause-same g c =
    rw (c.reserve.ensures.items, c.requires) (λ rest all. (λ h. h, λ h. h))

pub push-requires-clause-new : goal.push-requires-clause-new
push-requires-clause-new g c =
    let old = c.args.self.now in
    let w = g.F.Pairing.word_of in
    let f = is_taken old.word.bytes.items in
    let x = c.renew-word.result in
    let fresh : any_value f (map w old.items.items) ≡ false = sym c.is_old_word.ensures ∙ c.if-is_old_word.false in
    let is = taken_is old.word.controller old.word.bytes.items old.word.sound in
    rw (g.met.F.Pairing.keyed, c.begin.ensures.word, c.reserve.ensures.items)
    (lacks_value f (map w old.items.items) x fresh ((is x).1 c.renew-word.ensures.value) (λ y e. (is y).1 (rw e c.renew-word.ensures.value)))

pub invariant_of-self-2 : goal.invariant_of-self-2
invariant_of-self-2 g c =
    let old = c.args.self.now in
    let w = g.F.Pairing.word_of in
    let v = g.F.Pairing.value_of in
    let paired = g.F.Pairing.paired in
    let hw = g.F.Pairing.has_word in
    let hv = g.F.Pairing.has_value in
    let K = word_text.ghosts.means old.word in
    let D = g.V.Token.means old.value in
    let R = IsPairText w v (SpellsWord old.words.controller) (g.B.MakeToken.texts old.values) old.delimiter in
    let x = c.renew-word.result in
    let p = c.begin.result in
    let items : c.push.new.self.items ≡ old.items.items ++ p ∷ [] = c.push.ensures ∙ ap (λ y. y ++ p ∷ []) c.reserve.ensures.items in
    let f = pair_size w v word_text.ghosts.value_size g.V.Token.value_size in
    let one : f p ≡ word_text.ghosts.value_size x = (let e = ap word_text.ghosts.value_size c.begin.ensures.word in let h = c.begin.ensures.value_size in omega (arith, e, h)) in
    let k = c.renew-word.ensures.value in
    let is = taken_is old.word.controller old.word.bytes.items old.word.sound in
    let fresh : any_value (is_taken old.word.bytes.items) (map w old.items.items) ≡ false = sym c.is_old_word.ensures ∙ c.if-is_old_word.false in
    record {
      lacks = lacks_same old.delimiter (SpellsWord old.words.controller) (word_text.ghosts.means c.renew-word.new.token) c.renew-word.ensures.spells.is old.words_lack;
      words_lack = old.words_lack;
      stops = old.stops;
      values_stop = old.values_stop;
      small_separator = old.small_separator;
      small_delimiter = old.small_delimiter;
      begun = λ _. rw items (some_last old.items.items p);
      awaits = λ _. rw items (size_last (λ q. g.V.Token.value_size (v q)) old.items.items p ∙ c.begin.ensures.value_size);
      new_word = λ _. c.renew-word.ensures.size;
      distinct = words_pushed w old.items.items c.push.new.self.items p items old.distinct
          (rw c.begin.ensures.word (lacks_value (is_taken old.word.bytes.items) (map w old.items.items) x fresh ((is x).1 k) (λ y e. (is y).1 (rw e k))));
    }

pub returns-clause-taken : goal.returns-clause-taken
returns-clause-taken g c =
    let old = c.args.self.now in
    let w = g.F.Pairing.word_of in
    let v = g.F.Pairing.value_of in
    let paired = g.F.Pairing.paired in
    let hw = g.F.Pairing.has_word in
    let hv = g.F.Pairing.has_value in
    let K = word_text.ghosts.means old.word in
    let D = g.V.Token.means old.value in
    let R = IsPairText w v (SpellsWord old.words.controller) (g.B.MakeToken.texts old.values) old.delimiter in
    let x = c.renew-word.result in
    let p = c.begin.result in
    let items : c.push.new.self.items ≡ old.items.items ++ p ∷ [] = c.push.ensures ∙ ap (λ y. y ++ p ∷ []) c.reserve.ensures.items in
    let f = pair_size w v word_text.ghosts.value_size g.V.Token.value_size in
    let one : f p ≡ word_text.ghosts.value_size x = (let e = ap word_text.ghosts.value_size c.begin.ensures.word in let h = c.begin.ensures.value_size in omega (arith, e, h)) in
    let new = c.push.new.self.items in
    let k = c.renew-word.ensures.value in
    let d = g.V.Token.completes old.value in
    rw (c.requires, c.if-byte-self.false)
    (delimiter_pushed w v old.delimiter old.separator old.items.items R K D paired hw hv new p items (rw c.begin.ensures.word k) (word_text.ghosts.one_value old.word) old.lacks old.stops d (word_text.ghosts.means c.renew-word.new.token))

pub returns-clause-size : goal.returns-clause-size
returns-clause-size g c =
    let old = c.args.self.now in
    let w = g.F.Pairing.word_of in
    let v = g.F.Pairing.value_of in
    let paired = g.F.Pairing.paired in
    let hw = g.F.Pairing.has_word in
    let hv = g.F.Pairing.has_value in
    let K = word_text.ghosts.means old.word in
    let D = g.V.Token.means old.value in
    let R = IsPairText w v (SpellsWord old.words.controller) (g.B.MakeToken.texts old.values) old.delimiter in
    let x = c.renew-word.result in
    let p = c.begin.result in
    let items : c.push.new.self.items ≡ old.items.items ++ p ∷ [] = c.push.ensures ∙ ap (λ y. y ++ p ∷ []) c.reserve.ensures.items in
    let f = pair_size w v word_text.ghosts.value_size g.V.Token.value_size in
    let one : f p ≡ word_text.ghosts.value_size x = (let e = ap word_text.ghosts.value_size c.begin.ensures.word in let h = c.begin.ensures.value_size in omega (arith, e, h)) in
    omega (arith, size_pushed f c.push.new.self.items old.items.items p items, one, c.renew-word.ensures.size, c.renew-word.ensures.value_size)

pub returns-then-byte-self-clause-last : goal.returns-then-byte-self-clause-last
returns-then-byte-self-clause-last g c =
    let old = c.args.self.now in
    let w = g.F.Pairing.word_of in
    let v = g.F.Pairing.value_of in
    let paired = g.F.Pairing.paired in
    let hw = g.F.Pairing.has_word in
    let hv = g.F.Pairing.has_value in
    let D = g.V.Token.means old.value in
    let R = IsPairText w v (SpellsWord old.words.controller) (g.B.MakeToken.texts old.values) old.delimiter in
    let K = word_text.ghosts.means old.word in
    rw c.requires (if_err_as c.step.result (word_begins w v paired hw hv old.delimiter old.separator old.items.items R K D old.distinct c.args.byte c.if-byte-self.true
    (λ h. word_new old.word.controller old.word.bytes.items (c.args.byte ∷ []) h (map w old.items.items)) (g.V.Token.completes old.value)).0 c.step.ensures.last)

pub returns-in-Err-clause-last : goal.returns-in-Err-clause-last
returns-in-Err-clause-last g c =
    let old = c.args.self.now in
    let w = g.F.Pairing.word_of in
    let v = g.F.Pairing.value_of in
    let paired = g.F.Pairing.paired in
    let hw = g.F.Pairing.has_word in
    let hv = g.F.Pairing.has_value in
    let D = g.V.Token.means old.value in
    let R = IsPairText w v (SpellsWord old.words.controller) (g.B.MakeToken.texts old.values) old.delimiter in
    let K = word_text.ghosts.means old.word in
    let f = is_taken old.word.bytes.items in
    let new : not (any_value f (map w old.items.items)) ≡ true = ap not (sym c.is_old_word.ensures ∙ c.if-is_old_word.false) in
    rw (c.requires, c.if-byte-self.false)
    ((delimiter_begins w v paired hw hv old.delimiter old.separator old.items.items R K D old.distinct old.lacks
    (word_text.ghosts.one_value old.word) f
    (taken_is old.word.controller old.word.bytes.items old.word.sound) true
    (λ e. (word_text.ghosts.ends_is old.word).0 (sym c.can_end.ensures ∙ c.if-not-can_end.false), λ h. refl) (g.V.Token.completes old.value)).0 new)
