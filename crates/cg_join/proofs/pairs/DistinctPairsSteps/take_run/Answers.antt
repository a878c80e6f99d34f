use Rattle.std.proofs.Common.{take}
use Rattle.cg_join.specs.Pairs.{IsPairText}
use Rattle.cg_join.specs.PairsState.{WordAtHand, before_last}
use Rattle.cg_join.specs.PairsStateLaws.{last_word}
use Rattle.cg_join.specs.PartRunLaws.{value_run, word_run}
use Rattle.cg_join.specs.ScanLaws.{lacks_run}
use Rattle.cg_join.specs.declared.pairs.Stage.TheVariants.{InValue}
use Rattle.cg_join.specs.WordStartLaws.{SpellsWord}
use Rattle.cg_text.specs.contracts.word.WordTextToken.TheImpl as word_text
use Rattle.cg_join.proofs.pairs.DistinctPairsSteps.take_run.Goals as goal

pub invariant_of-self : goal.invariant_of-self
invariant_of-self g c =
    let old = c.args.self.now in
    record {
      lacks = lacks_run old.delimiter (word_text.ghosts.means old.word) (word_text.ghosts.means c.push_count.new.token) (take c.push_count.result c.args.bytes.now) c.push_count.ensures.follows old.lacks;
      words_lack = old.words_lack;
      stops = old.stops;
      values_stop = old.values_stop;
      small_separator = old.small_separator;
      small_delimiter = old.small_delimiter;
      begun = old.begun;
      awaits = old.awaits;
      new_word = λ other. absurd (other c.in-InWord.is);
      distinct = old.distinct;
    }

pub returns-in-InWord-clause-follows : goal.returns-in-InWord-clause-follows
returns-in-InWord-clause-follows g c =
    let old = c.args.self.now in
    let w = g.F.Pairing.word_of in
    let v = g.F.Pairing.value_of in
    let paired = g.F.Pairing.paired in
    let hw = g.F.Pairing.has_word in
    let hv = g.F.Pairing.has_value in
    let R = IsPairText w v (SpellsWord old.words.controller) (g.B.MakeToken.texts old.values) old.delimiter in
    let new = c.push_count.new.token in
    rw c.in-InWord.is
    (word_run w v paired hw hv old.delimiter old.separator old.items.items R (g.V.Token.means old.value) old.stops (g.V.Token.completes old.value) (word_text.ghosts.means old.word)
    (word_text.ghosts.means new) (take c.push_count.result c.args.bytes.now) old.lacks (word_text.ghosts.completes new) c.push_count.ensures.follows)

pub returns-in-InValue-clause-follows : goal.returns-in-InValue-clause-follows
returns-in-InValue-clause-follows g c =
    let old = c.args.self.now in
    let w = g.F.Pairing.word_of in
    let v = g.F.Pairing.value_of in
    let paired = g.F.Pairing.paired in
    let hw = g.F.Pairing.has_word in
    let hv = g.F.Pairing.has_value in
    let R = IsPairText w v (SpellsWord old.words.controller) (g.B.MakeToken.texts old.values) old.delimiter in
    let K = WordAtHand w InValue old.items.items (word_text.ghosts.means old.word) in
    let k = last_word w old.items.items (old.begun c.in-InValue.is) old.distinct in
    let run = c.push_count-in-InValue in
    rw c.in-InValue.is
    (value_run w v paired hw hv old.delimiter old.separator (before_last old.items.items) R K (k.0, k.1) (g.V.Token.means old.value) (g.V.Token.means run.new.token)
    (take run.result c.args.bytes.now) old.stops (g.V.Token.completes run.new.token) run.ensures.follows)
