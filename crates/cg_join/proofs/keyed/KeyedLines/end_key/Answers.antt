use Rattle.std.proofs.Common.{◌≡◌, [], ◌∷◌, ◌++◌, map, length, sym, ◌∙◌, ap}
use Rattle.cg_join.specs.DistinctLaws.{distinct_push}
use Rattle.cg_join.specs.Keyed.{IsKeyed}
use Rattle.cg_join.specs.KeyedState.{is_begun}
use Rattle.cg_join.specs.KeyedLaws.{distinct_first, new_lacks, none_kept}
use Rattle.cg_join.specs.KeyedStateLaws.{delimiter_refused, delimiter_step, delimiter_begins}
use Rattle.cg_join.specs.LinesLaws.{lacks_same}
use Rattle.cg_text.specs.WordState.{is_taken}
use Rattle.cg_join.specs.WordStartLaws.{SpellsWord, taken_is}
use Rattle.cg_text.specs.contracts.word.WordTextToken.TheImpl as word_text
use Rattle.cg_join.proofs.keyed.KeyedLines.end_key.Goals as goal

pub returns-then-not-is_new_key-clause-refused : goal.returns-then-not-is_new_key-clause-refused
returns-then-not-is_new_key-clause-refused g c =
    let old = c.args.self.now in
    let k = g.C.Collection.key_of in
    let v = g.C.Collection.value_of in
    let given = g.C.Collection.given in
    let items = g.C.Collection.pairs_of old.pairs in
    let bare_value = g.B.MakeValue.bare_value old.values in
    let K = word_text.ghosts.means old.key in
    let D = g.V.Token.means old.value in
    let R = IsKeyed k v (SpellsWord old.keys.controller) (g.B.MakeToken.texts old.values) bare_value old.delimiter in
    let f = is_taken old.key.bytes.items in
    let e = word_text.ghosts.ends old.key in
    let is = taken_is old.key.controller old.key.bytes.items old.key.sound in
    let ended = word_text.ghosts.ends_is old.key in
    let one = word_text.ghosts.one_value old.key in
    rw c.requires (delimiter_refused k v given items R K D bare_value old.delimiter old.end (is_begun old.stage) f e is ended one old.key_delimiter old.apart (sym c.is_new_key.ensures ∙ c.if-not-is_new_key.true))

pub returns-in-Err-clause-same : goal.returns-in-Err-clause-same
returns-in-Err-clause-same g c =
    rw (c.make_room.ensures.items, c.requires) (λ rest y. (λ h. h, λ h. h))

pub invariant_of-self-2 : goal.invariant_of-self-2
invariant_of-self-2 g c =
    let old = c.args.self.now in
    let k = g.C.Collection.key_of in
    let items = g.C.Collection.pairs_of old.pairs in
    let bare_value = g.B.MakeValue.bare_value old.values in
    let K = word_text.ghosts.means old.key in
    let f = is_taken old.key.bytes.items in
    let e = word_text.ghosts.ends old.key in
    let is = taken_is old.key.controller old.key.bytes.items old.key.sound in
    let key = c.renew-key.result in
    let kv = c.renew-key.ensures.value in
    let new = new_lacks K f e is (map k items) (sym c.is_new_key.ensures ∙ c.if-not-is_new_key.false) key kv in
    let none = none_kept old.ended.items (rw c.requires at old.kept) in
    let first = distinct_first (map k items) old.ended.items old.distinct in
    let held : c.put.new.items.items ≡ key ∷ [] = c.put.ensures ∙ ap (λ x. x ++ key ∷ []) (c.make_room.ensures.items ∙ none) in
    record {
      key_delimiter = lacks_same old.delimiter (SpellsWord old.keys.controller) (word_text.ghosts.means c.renew-key.new.token) c.renew-key.ensures.spells.is old.keys_delimiter;
      key_end = lacks_same old.end (SpellsWord old.keys.controller) (word_text.ghosts.means c.renew-key.new.token) c.renew-key.ensures.spells.is old.keys_end;
      value_end = old.value_end;
      apart = old.apart;
      small_delimiter = old.small_delimiter;
      small_end = old.small_end;
      keys_delimiter = old.keys_delimiter;
      keys_end = old.keys_end;
      values_end = old.values_end;
      new_key = λ e. absurd (cc);
      new_value = λ e. absurd (cc);
      kept = ap length held;
      distinct = rw held (distinct_push (map k items) key first new);
    }

pub returns-clause-taken : goal.returns-clause-taken
returns-clause-taken g c =
    let old = c.args.self.now in
    let k = g.C.Collection.key_of in
    let v = g.C.Collection.value_of in
    let given = g.C.Collection.given in
    let items = g.C.Collection.pairs_of old.pairs in
    let bare_value = g.B.MakeValue.bare_value old.values in
    let K = word_text.ghosts.means old.key in
    let D = g.V.Token.means old.value in
    let R = IsKeyed k v (SpellsWord old.keys.controller) (g.B.MakeToken.texts old.values) bare_value old.delimiter in
    let one = word_text.ghosts.one_value old.key in
    let key = c.renew-key.result in
    let kv = c.renew-key.ensures.value in
    let none = none_kept old.ended.items (rw c.requires at old.kept) in
    let held : c.put.new.items.items ≡ key ∷ [] = c.put.ensures ∙ ap (λ x. x ++ key ∷ []) (c.make_room.ensures.items ∙ none) in
    rw c.requires (delimiter_step k v given items R K D bare_value old.delimiter old.end (is_begun old.stage) old.key_delimiter old.apart one key kv c.put.new.items.items held (word_text.ghosts.means c.renew-key.new.token))

pub returns-in-Err-clause-last : goal.returns-in-Err-clause-last
returns-in-Err-clause-last g c =
    let old = c.args.self.now in
    let k = g.C.Collection.key_of in
    let v = g.C.Collection.value_of in
    let given = g.C.Collection.given in
    let items = g.C.Collection.pairs_of old.pairs in
    let bare_value = g.B.MakeValue.bare_value old.values in
    let K = word_text.ghosts.means old.key in
    let D = g.V.Token.means old.value in
    let R = IsKeyed k v (SpellsWord old.keys.controller) (g.B.MakeToken.texts old.values) bare_value old.delimiter in
    let f = is_taken old.key.bytes.items in
    let e = word_text.ghosts.ends old.key in
    let is = taken_is old.key.controller old.key.bytes.items old.key.sound in
    let ended = word_text.ghosts.ends_is old.key in
    let one = word_text.ghosts.one_value old.key in
    let first = distinct_first (map k items) old.ended.items old.distinct in
    rw c.requires ((delimiter_begins k v given items R K D bare_value old.delimiter old.end
    (is_begun old.stage) f e is ended one g.C.Collection.paired g.C.Collection.has_key g.C.Collection.has_value
    first old.key_delimiter old.apart (g.V.Token.completes old.value)).0
    (sym c.is_new_key.ensures ∙ c.if-not-is_new_key.false))
