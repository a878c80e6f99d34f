use Rattle.cg_join.specs.LinesLaws.{lacks_same}
use Rattle.cg_join.specs.Keyed.{IsKeyed}
use Rattle.cg_join.specs.KeyedLaws.{keyed_alike}
use Rattle.cg_join.specs.KeyedStateLaws.{keyed_new}
use Rattle.cg_join.specs.WordStartLaws.{SpellsWord}
use Rattle.cg_text.specs.contracts.word.WordTextToken.TheImpl as word_text
use Rattle.cg_join.proofs.keyed.KeyedLines.new.Goals as goal

pub returns-clause-spells : goal.returns-clause-spells
returns-clause-spells g c =
    let k = g.C.Collection.key_of in
    let v = g.C.Collection.value_of in
    let bare_value = g.B.MakeValue.bare_value c.args.values in
    let T = SpellsWord c.args.keys.controller in
    let U = g.B.MakeToken.texts c.args.values in
    let K = word_text.ghosts.means c.start-key.result in
    let D = g.V.Token.means c.start-value.result in
    record {
      is = keyed_new k g.C.Collection.given (g.C.Collection.pairs_of c.args.pairs) c.requires.empty (IsKeyed k v K D bare_value c.args.delimiter) (IsKeyed k v T U bare_value c.args.delimiter) c.args.end
          (keyed_alike k v bare_value c.args.delimiter K T D U c.start-key.ensures.spells.is c.start-value.ensures.spells.is);
    }

pub invariant_of-result-clause-key_delimiter : goal.invariant_of-result-clause-key_delimiter
invariant_of-result-clause-key_delimiter g c =
    lacks_same c.args.delimiter (SpellsWord c.args.keys.controller) (word_text.ghosts.means c.start-key.result) c.start-key.ensures.spells.is c.requires.keys_delimiter

pub invariant_of-result-clause-key_end : goal.invariant_of-result-clause-key_end
invariant_of-result-clause-key_end g c =
    lacks_same c.args.end (SpellsWord c.args.keys.controller) (word_text.ghosts.means c.start-key.result) c.start-key.ensures.spells.is c.requires.keys_end

pub invariant_of-result-clause-value_end : goal.invariant_of-result-clause-value_end
invariant_of-result-clause-value_end g c =
    lacks_same c.args.end (g.B.MakeToken.texts c.args.values) (g.V.Token.means c.start-value.result) c.start-value.ensures.spells.is c.requires.values_end
