use Rattle.std.proofs.Common.{[], ◌∷◌, map, sym, ◌∙◌}
use Rattle.cg_join.specs.Keyed.{IsKeyed}
use Rattle.cg_join.specs.KeyedState.{is_begun}
use Rattle.cg_join.specs.KeyedLaws.{distinct_first, keyed_lacks}
use Rattle.cg_join.specs.KeyedStateLaws.{end_begins, key_begins, delimiter_begins, none_refused}
use Rattle.cg_text.specs.WordState.{is_taken}
use Rattle.cg_join.specs.WordStartLaws.{SpellsWord, word_new, taken_is}
use Rattle.cg_text.specs.contracts.word.WordTextToken.TheImpl as word_text
use Rattle.cg_join.proofs.keyed.KeyedLines.allows_key.Goals as goal

pub returns-then-byte-self : goal.returns-then-byte-self
returns-then-byte-self g c =
    let old = c.args.self.now in
    let k = g.C.Collection.key_of in
    let v = g.C.Collection.value_of in
    let given = g.C.Collection.given in
    let items = g.C.Collection.pairs_of old.pairs in
    let bare_value = g.B.MakeValue.bare_value old.values in
    let K = word_text.ghosts.means old.key in
    let D = g.V.Token.means old.value in
    let R = IsKeyed k v (SpellsWord old.keys.controller) (g.B.MakeToken.texts old.values) bare_value old.delimiter in
    let f = is_taken old.key.bytes.items in
    let e = word_text.ghosts.ends old.key in
    let is = taken_is old.key.controller old.key.bytes.items old.key.sound in
    let ended = word_text.ghosts.ends_is old.key in
    let one = word_text.ghosts.one_value old.key in
    let first = distinct_first (map k items) old.ended.items old.distinct in
    rw (c.requires, c.if-byte-self.true, c.is_new_key.ensures)
    (delimiter_begins k v given items R K D bare_value old.delimiter old.end (is_begun old.stage) f e is ended one g.C.Collection.paired g.C.Collection.has_key g.C.Collection.has_value first old.key_delimiter old.apart (g.V.Token.completes old.value))

pub returns-in-Some : goal.returns-in-Some
returns-in-Some g c =
    let old = c.args.self.now in
    let k = g.C.Collection.key_of in
    let v = g.C.Collection.value_of in
    let given = g.C.Collection.given in
    let items = g.C.Collection.pairs_of old.pairs in
    let bare_value = g.B.MakeValue.bare_value old.values in
    let K = word_text.ghosts.means old.key in
    let D = g.V.Token.means old.value in
    let R = IsKeyed k v (SpellsWord old.keys.controller) (g.B.MakeToken.texts old.values) bare_value old.delimiter in
    let f = is_taken old.key.bytes.items in
    let e = word_text.ghosts.ends old.key in
    let is = taken_is old.key.controller old.key.bytes.items old.key.sound in
    let ended = word_text.ghosts.ends_is old.key in
    let one = word_text.ghosts.one_value old.key in
    let first = distinct_first (map k items) old.ended.items old.distinct in
    let lacks = keyed_lacks k v bare_value old.delimiter K D old.end old.apart old.key_end old.value_end in
    rw (c.requires, c.if-byte-self-2.true, c.is_new_key-in-Some.ensures)
    (end_begins k v given items R K D bare_value old.delimiter old.end (is_begun old.stage) f e is ended one g.C.Collection.paired g.C.Collection.has_key g.C.Collection.has_value first lacks c.in-Some.field-0 (sym c.bare_value.ensures ∙ c.in-Some.is))

pub returns-in-None : goal.returns-in-None
returns-in-None g c =
    let old = c.args.self.now in
    let k = g.C.Collection.key_of in
    let v = g.C.Collection.value_of in
    let given = g.C.Collection.given in
    let items = g.C.Collection.pairs_of old.pairs in
    let bare_value = g.B.MakeValue.bare_value old.values in
    let K = word_text.ghosts.means old.key in
    let D = g.V.Token.means old.value in
    let R = IsKeyed k v (SpellsWord old.keys.controller) (g.B.MakeToken.texts old.values) bare_value old.delimiter in
    let lacks = keyed_lacks k v bare_value old.delimiter K D old.end old.apart old.key_end old.value_end in
    rw (c.requires, c.if-byte-self-2.true)
    (λ h. absurd (cc), λ h. absurd (none_refused k v given items R K D bare_value old.delimiter old.end (is_begun old.stage) lacks (sym c.bare_value.ensures ∙ c.in-None.is) h.0 h.1 h.2))

pub returns : goal.returns
returns g c =
    let old = c.args.self.now in
    let k = g.C.Collection.key_of in
    let v = g.C.Collection.value_of in
    let given = g.C.Collection.given in
    let items = g.C.Collection.pairs_of old.pairs in
    let bare_value = g.B.MakeValue.bare_value old.values in
    let K = word_text.ghosts.means old.key in
    let D = g.V.Token.means old.value in
    let R = IsKeyed k v (SpellsWord old.keys.controller) (g.B.MakeToken.texts old.values) bare_value old.delimiter in
    let first = distinct_first (map k items) old.ended.items old.distinct in
    let all = key_begins k v given items R K D bare_value old.delimiter old.end
    (is_begun old.stage) g.C.Collection.paired g.C.Collection.has_key g.C.Collection.has_value first
    (g.V.Token.completes old.value) c.args.byte c.if-byte-self.false c.if-byte-self-2.false
    (λ h. word_new old.key.controller old.key.bytes.items (c.args.byte ∷ []) h (map k items)) in
    rw c.requires (λ h. all.0 (c.allows.ensures.0 h), λ h. c.allows.ensures.1 (all.1 h))
