use Rattle.std.proofs.Common.{◌≡◌, [], ◌∷◌, ◌++◌, map, length, Some, sym, ◌∙◌, ap}
use Rattle.cg_join.specs.Keyed.{IsKeyed}
use Rattle.cg_join.specs.KeyedState.{is_begun}
use Rattle.cg_join.specs.KeyedLaws.{distinct_added, distinct_first, keyed_alike, keyed_lacks, keyed_one, new_lacks, none_kept}
use Rattle.cg_join.specs.KeyedStateLaws.{end_refused, end_step, none_refused, end_begins}
use Rattle.cg_join.specs.LinesLaws.{lacks_same}
use Rattle.cg_text.specs.WordState.{is_taken}
use Rattle.cg_join.specs.WordStartLaws.{SpellsWord, taken_is}
use Rattle.cg_text.specs.contracts.word.WordTextToken.TheImpl as word_text
use Rattle.cg_join.proofs.keyed.KeyedLines.end_alone.Goals as goal

pub returns-in-None-clause-refused : goal.returns-in-None-clause-refused
returns-in-None-clause-refused g c =
    let old = c.args.self.now in
    let k = g.C.Collection.key_of in
    let v = g.C.Collection.value_of in
    let given = g.C.Collection.given in
    let items = g.C.Collection.pairs_of old.pairs in
    let bare_value = g.B.MakeValue.bare_value old.values in
    let K = word_text.ghosts.means old.key in
    let D = g.V.Token.means old.value in
    let R = IsKeyed k v (SpellsWord old.keys.controller) (g.B.MakeToken.texts old.values) bare_value old.delimiter in
    let lacks = keyed_lacks k v bare_value old.delimiter K D old.end old.apart old.key_end old.value_end in
    rw c.requires (none_refused k v given items R K D bare_value old.delimiter old.end (is_begun old.stage) lacks (sym c.bare_value.ensures ∙ c.in-None.is))

pub returns-then-not-is_new_key-clause-refused : goal.returns-then-not-is_new_key-clause-refused
returns-then-not-is_new_key-clause-refused g c =
    let old = c.args.self.now in
    let k = g.C.Collection.key_of in
    let v = g.C.Collection.value_of in
    let given = g.C.Collection.given in
    let items = g.C.Collection.pairs_of old.pairs in
    let bare_value = g.B.MakeValue.bare_value old.values in
    let K = word_text.ghosts.means old.key in
    let D = g.V.Token.means old.value in
    let R = IsKeyed k v (SpellsWord old.keys.controller) (g.B.MakeToken.texts old.values) bare_value old.delimiter in
    let f = is_taken old.key.bytes.items in
    let e = word_text.ghosts.ends old.key in
    let is = taken_is old.key.controller old.key.bytes.items old.key.sound in
    let ended = word_text.ghosts.ends_is old.key in
    let one = word_text.ghosts.one_value old.key in
    let lacks = keyed_lacks k v bare_value old.delimiter K D old.end old.apart old.key_end old.value_end in
    rw c.requires (end_refused k v given items R K D bare_value old.delimiter old.end (is_begun old.stage) f e is ended one lacks (sym c.is_new_key.ensures ∙ c.if-not-is_new_key.true))

pub push-requires-clause-new : goal.push-requires-clause-new
push-requires-clause-new g c =
    let old = c.args.self.now in
    let k = g.C.Collection.key_of in
    let items = g.C.Collection.pairs_of old.pairs in
    let K = word_text.ghosts.means old.key in
    let f = is_taken old.key.bytes.items in
    let e = word_text.ghosts.ends old.key in
    let is = taken_is old.key.controller old.key.bytes.items old.key.sound in
    let key = c.renew-key.result in
    let kv = c.renew-key.ensures.value in
    let new = new_lacks K f e is (map k items) (sym c.is_new_key.ensures ∙ c.if-not-is_new_key.false) key kv in
    rw c.reserve.ensures.pairs new

pub invariant_of-self-2 : goal.invariant_of-self-2
invariant_of-self-2 g c =
    let old = c.args.self.now in
    let k = g.C.Collection.key_of in
    let items = g.C.Collection.pairs_of old.pairs in
    let bare_value = g.B.MakeValue.bare_value old.values in
    let K = word_text.ghosts.means old.key in
    let f = is_taken old.key.bytes.items in
    let e = word_text.ghosts.ends old.key in
    let is = taken_is old.key.controller old.key.bytes.items old.key.sound in
    let key = c.renew-key.result in
    let kv = c.renew-key.ensures.value in
    let new = new_lacks K f e is (map k items) (sym c.is_new_key.ensures ∙ c.if-not-is_new_key.false) key kv in
    let none = none_kept old.ended.items (rw c.requires at old.kept) in
    let first = distinct_first (map k items) old.ended.items old.distinct in
    let value = c.in-Some.value in
    let p = g.C.Collection.paired key value in
    let added : g.C.Collection.pairs_of c.push.new.self ≡ items ++ p ∷ [] = c.push.ensures.pairs ∙ ap (λ x. x ++ p ∷ []) c.reserve.ensures.pairs in
    let hk = g.C.Collection.has_key key value in
    record {
      key_delimiter = lacks_same old.delimiter (SpellsWord old.keys.controller) (word_text.ghosts.means c.renew-key.new.token) c.renew-key.ensures.spells.is old.keys_delimiter;
      key_end = lacks_same old.end (SpellsWord old.keys.controller) (word_text.ghosts.means c.renew-key.new.token) c.renew-key.ensures.spells.is old.keys_end;
      value_end = lacks_same old.end (g.B.MakeToken.texts old.values) (g.V.Token.means c.start.result) c.start.ensures.spells.is old.values_end;
      apart = old.apart;
      small_delimiter = old.small_delimiter;
      small_end = old.small_end;
      keys_delimiter = old.keys_delimiter;
      keys_end = old.keys_end;
      values_end = old.values_end;
      new_key = λ _. c.renew-key.ensures.size;
      new_value = λ _. c.start.ensures.size;
      kept = ap length none;
      distinct = distinct_added k items (g.C.Collection.pairs_of c.push.new.self) p old.ended.items added none first (rw hk new);
    }

pub returns-clause-taken : goal.returns-clause-taken
returns-clause-taken g c =
    let old = c.args.self.now in
    let k = g.C.Collection.key_of in
    let v = g.C.Collection.value_of in
    let given = g.C.Collection.given in
    let items = g.C.Collection.pairs_of old.pairs in
    let bare_value = g.B.MakeValue.bare_value old.values in
    let K = word_text.ghosts.means old.key in
    let D = g.V.Token.means old.value in
    let R = IsKeyed k v (SpellsWord old.keys.controller) (g.B.MakeToken.texts old.values) bare_value old.delimiter in
    let one = word_text.ghosts.one_value old.key in
    let lacks = keyed_lacks k v bare_value old.delimiter K D old.end old.apart old.key_end old.value_end in
    let key = c.renew-key.result in
    let kv = c.renew-key.ensures.value in
    let value = c.in-Some.value in
    let is_alone = sym c.bare_value.ensures ∙ c.in-Some.is in
    let p = g.C.Collection.paired key value in
    let added : g.C.Collection.pairs_of c.push.new.self ≡ items ++ p ∷ [] = c.push.ensures.pairs ∙ ap (λ x. x ++ p ∷ []) c.reserve.ensures.pairs in
    let hk = g.C.Collection.has_key key value in
    let hv = g.C.Collection.has_value key value in
    let F = IsKeyed k v (word_text.ghosts.means c.renew-key.new.token) (g.V.Token.means c.start.result) bare_value old.delimiter in
    rw c.requires
    (end_step k v given items R K D bare_value old.delimiter old.end (is_begun old.stage) lacks (keyed_one k v bare_value old.delimiter K D g.C.Collection.paired g.C.Collection.whole old.key_delimiter one (g.V.Token.one_value old.value))
    p (rw hk kv) (is_alone ∙ ap Some (sym hv)) (g.C.Collection.pairs_of c.push.new.self) added F
    (keyed_alike k v bare_value old.delimiter (word_text.ghosts.means c.renew-key.new.token) (SpellsWord old.keys.controller) (g.V.Token.means c.start.result) (g.B.MakeToken.texts old.values) c.renew-key.ensures.spells.is c.start.ensures.spells.is))

pub returns-in-Err-clause-last : goal.returns-in-Err-clause-last
returns-in-Err-clause-last g c =
    let old = c.args.self.now in
    let k = g.C.Collection.key_of in
    let v = g.C.Collection.value_of in
    let given = g.C.Collection.given in
    let items = g.C.Collection.pairs_of old.pairs in
    let bare_value = g.B.MakeValue.bare_value old.values in
    let K = word_text.ghosts.means old.key in
    let D = g.V.Token.means old.value in
    let R = IsKeyed k v (SpellsWord old.keys.controller) (g.B.MakeToken.texts old.values) bare_value old.delimiter in
    let f = is_taken old.key.bytes.items in
    let e = word_text.ghosts.ends old.key in
    let is = taken_is old.key.controller old.key.bytes.items old.key.sound in
    let ended = word_text.ghosts.ends_is old.key in
    let one = word_text.ghosts.one_value old.key in
    let first = distinct_first (map k items) old.ended.items old.distinct in
    let lacks = keyed_lacks k v bare_value old.delimiter K D old.end old.apart old.key_end old.value_end in
    rw c.requires ((end_begins k v given items R K D bare_value old.delimiter old.end
    (is_begun old.stage) f e is ended one g.C.Collection.paired g.C.Collection.has_key g.C.Collection.has_value
    first lacks c.in-Some.value (sym c.bare_value.ensures ∙ c.in-Some.is)).0
    (sym c.is_new_key.ensures ∙ c.if-not-is_new_key.false))
