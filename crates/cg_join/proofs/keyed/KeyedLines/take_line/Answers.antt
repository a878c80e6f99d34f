use Rattle.std.proofs.Common.{◌≡◌, map, length, false, sym, ◌∙◌, ap}
use Rattle.cg_join.specs.Keyed.{IsKeyed}
use Rattle.cg_join.specs.KeyedState.{is_begun, is_delimited}
use Rattle.cg_join.specs.KeyedLaws.{distinct_added, distinct_first, keyed_alike, keyed_lacks, keyed_one, none_kept}
use Rattle.cg_join.specs.LinesLaws.{lacks_same}
use Rattle.cg_join.specs.WholeLineLaws.{keyed_whole, pair_text}
use Rattle.cg_join.specs.WordStartLaws.{SpellsWord}
use Rattle.cg_text.specs.contracts.word.WordTextToken.TheImpl as word_text
use Rattle.cg_join.proofs.keyed.KeyedLines.take_line.Goals as goal

pub invariant_of-self-2 : goal.invariant_of-self-2
invariant_of-self-2 g c =
    let old = c.args.self.now in
    let k = g.C.Collection.key_of in
    let items = g.C.Collection.pairs_of old.pairs in
    let unmarked : is_delimited old.stage ≡ false = sym c.has_key.ensures ∙ c.if-has_key.false in
    let none = none_kept old.ended.items (rw unmarked at old.kept) in
    let first = distinct_first (map k items) old.ended.items old.distinct in
    let p = g.C.Collection.paired c.in-Some.pair.0 c.in-Some.pair.1 in
    let hk = g.C.Collection.has_key c.in-Some.pair.0 c.in-Some.pair.1 in
    record {
      key_delimiter = lacks_same old.delimiter (SpellsWord old.keys.controller) (word_text.ghosts.means c.start.result) c.start.ensures.spells.is old.keys_delimiter;
      key_end = lacks_same old.end (SpellsWord old.keys.controller) (word_text.ghosts.means c.start.result) c.start.ensures.spells.is old.keys_end;
      value_end = lacks_same old.end (g.B.MakeToken.texts old.values) (g.V.Token.means c.start-2.result) c.start-2.ensures.spells.is old.values_end;
      apart = old.apart;
      small_delimiter = old.small_delimiter;
      small_end = old.small_end;
      keys_delimiter = old.keys_delimiter;
      keys_end = old.keys_end;
      values_end = old.values_end;
      new_key = λ _. c.start.ensures.size;
      new_value = λ _. c.start-2.ensures.size;
      kept = ap length none;
      distinct = distinct_added k items (g.C.Collection.pairs_of c.add.new.self) p old.ended.items (c.add.ensures.added c.if-not-add.false) none first (rw hk (c.add.ensures.new c.if-not-add.false));
    }

pub returns-clause-taken : goal.returns-clause-taken
returns-clause-taken g c _ =
    let old = c.args.self.now in
    let k = g.C.Collection.key_of in
    let v = g.C.Collection.value_of in
    let given = g.C.Collection.given in
    let items = g.C.Collection.pairs_of old.pairs in
    let bare_value = g.B.MakeValue.bare_value old.values in
    let K = word_text.ghosts.means old.key in
    let D = g.V.Token.means old.value in
    let R = IsKeyed k v (SpellsWord old.keys.controller) (g.B.MakeToken.texts old.values) bare_value old.delimiter in
    let F = IsKeyed k v (word_text.ghosts.means c.start.result) (g.V.Token.means c.start-2.result) bare_value old.delimiter in
    let unmarked : is_delimited old.stage ≡ false = sym c.has_key.ensures ∙ c.if-has_key.false in
    let p = g.C.Collection.paired c.in-Some.pair.0 c.in-Some.pair.1 in
    let hk = g.C.Collection.has_key c.in-Some.pair.0 c.in-Some.pair.1 in
    let hv = g.C.Collection.has_value c.in-Some.pair.0 c.in-Some.pair.1 in
    let line = pair_text k v bare_value old.delimiter K D c.args.line.now p c.in-Some.pair hk hv c.in-Some.ensures.pair in
    rw (unmarked, c.if-end-self.false)
    (keyed_whole k v bare_value old.delimiter K D old.end given F R
    (keyed_alike k v bare_value old.delimiter (word_text.ghosts.means c.start.result) (SpellsWord old.keys.controller) (g.V.Token.means c.start-2.result) (g.B.MakeToken.texts old.values) c.start.ensures.spells.is c.start-2.ensures.spells.is)
    (keyed_lacks k v bare_value old.delimiter K D old.end old.apart old.key_end old.value_end)
    (keyed_one k v bare_value old.delimiter K D g.C.Collection.paired g.C.Collection.whole old.key_delimiter (word_text.ghosts.one_value old.key) (g.V.Token.one_value old.value))
    c.args.line.now p line (is_begun old.stage) items (g.C.Collection.pairs_of c.add.new.self) (c.add.ensures.added c.if-not-add.false))
