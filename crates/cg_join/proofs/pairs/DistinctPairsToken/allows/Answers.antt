use Rattle.std.proofs.Common.{[], ◌∷◌, map, sym, ◌∙◌, eq-eqb, eqb-true, eqb}
use Rattle.cg_join.specs.Pairs.{IsPairText}
use Rattle.cg_join.specs.PairsLaws.{first_begins, delimiter_begins, new_pair, value_begins, word_begins}
use Rattle.cg_join.specs.PairsState.{WordAtHand, before_last}
use Rattle.cg_join.specs.PairsStateLaws.{distinct_before, last_word}
use Rattle.cg_join.specs.declared.pairs.Stage.TheVariants.{InValue}
use Rattle.cg_text.specs.WordState.{is_taken}
use Rattle.cg_join.specs.WordStartLaws.{SpellsWord, word_new, new_word_text, taken_is}
use Rattle.cg_text.specs.contracts.word.WordTextToken.TheImpl as word_text
use Rattle.cg_join.proofs.pairs.DistinctPairsToken.allows.Goals as goal

pub returns-in-Before : goal.returns-in-Before
returns-in-Before g c =
    let old = c.args.self.now in
    let w = g.F.Pairing.word_of in
    let v = g.F.Pairing.value_of in
    let paired = g.F.Pairing.paired in
    let hw = g.F.Pairing.has_word in
    let hv = g.F.Pairing.has_value in
    let K = word_text.ghosts.means old.word in
    let D = g.V.Token.means old.value in
    let R = IsPairText w v (SpellsWord old.words.controller) (g.B.MakeToken.texts old.values) old.delimiter in
    rw c.in-Before.is
    (first_begins w v paired hw hv old.delimiter old.separator old.items.items R K D old.distinct (eqb c.args.byte old.separator) c.args.byte
    (λ e. eqb-true c.args.byte old.separator e, λ e. eq-eqb c.args.byte old.separator e)
    (word_new old.word.controller old.word.bytes.items [] (word_text.ghosts.completes old.word) (map w old.items.items)) (g.V.Token.completes old.value))

pub returns-then-byte-self : goal.returns-then-byte-self
returns-then-byte-self g c =
    let old = c.args.self.now in
    let w = g.F.Pairing.word_of in
    let v = g.F.Pairing.value_of in
    let paired = g.F.Pairing.paired in
    let hw = g.F.Pairing.has_word in
    let hv = g.F.Pairing.has_value in
    let K = word_text.ghosts.means old.word in
    let D = g.V.Token.means old.value in
    let R = IsPairText w v (SpellsWord old.words.controller) (g.B.MakeToken.texts old.values) old.delimiter in
    let all = word_begins w v paired hw hv old.delimiter old.separator old.items.items R K D old.distinct c.args.byte c.if-byte-self.true
    (λ h. word_new old.word.controller old.word.bytes.items (c.args.byte ∷ []) h (map w old.items.items)) (g.V.Token.completes old.value) in
    rw c.in-InWord.is (λ h. all.0 (c.allows.ensures.0 h), λ h. c.allows.ensures.1 (all.1 h))

pub returns-else-byte-self : goal.returns-else-byte-self
returns-else-byte-self g c =
    let old = c.args.self.now in
    let w = g.F.Pairing.word_of in
    let v = g.F.Pairing.value_of in
    let paired = g.F.Pairing.paired in
    let hw = g.F.Pairing.has_word in
    let hv = g.F.Pairing.has_value in
    let K = word_text.ghosts.means old.word in
    let D = g.V.Token.means old.value in
    let R = IsPairText w v (SpellsWord old.words.controller) (g.B.MakeToken.texts old.values) old.delimiter in
    let f = is_taken old.word.bytes.items in
    let ends = word_text.ghosts.ends_is old.word in
    rw (c.in-InWord.is, c.if-byte-self.false, c.is_old_word-old.ensures)
    (delimiter_begins w v paired hw hv old.delimiter old.separator old.items.items R K D old.distinct old.lacks (word_text.ghosts.one_value old.word) f (taken_is old.word.controller old.word.bytes.items old.word.sound) c.can_end-ended.result
    (λ e. ends.0 (sym c.can_end-ended.ensures ∙ e), λ h. c.can_end-ended.ensures ∙ ends.1 h) (g.V.Token.completes old.value))

pub returns-in-InValue : goal.returns-in-InValue
returns-in-InValue g c =
    let old = c.args.self.now in
    let w = g.F.Pairing.word_of in
    let v = g.F.Pairing.value_of in
    let paired = g.F.Pairing.paired in
    let hw = g.F.Pairing.has_word in
    let hv = g.F.Pairing.has_value in
    let K = WordAtHand w InValue old.items.items (word_text.ghosts.means old.word) in
    let D = g.V.Token.means old.value in
    let R = IsPairText w v (SpellsWord old.words.controller) (g.B.MakeToken.texts old.values) old.delimiter in
    let ends = g.V.Token.ends_is old.value in
    rw c.in-InValue.is
    (value_begins w v paired hw hv old.delimiter old.separator (before_last old.items.items) R K D
    (distinct_before w old.items.items old.distinct) c.args.byte c.allows-more.result
    (eqb c.args.byte old.separator) c.can_end-ended-in-InValue.result c.allows-more.ensures
    (λ e. eqb-true c.args.byte old.separator e, λ e. eq-eqb c.args.byte old.separator e)
    (λ e. ends.0 (sym c.can_end-ended-in-InValue.ensures ∙ e), λ h. c.can_end-ended-in-InValue.ensures ∙ ends.1 h)
    (last_word w old.items.items (old.begun c.in-InValue.is) old.distinct)
    (new_pair w v paired hw hv old.delimiter (SpellsWord old.words.controller) (g.B.MakeToken.texts old.values) (new_word_text old.words.controller) (g.met.B.MakeToken.some_text old.values)))
