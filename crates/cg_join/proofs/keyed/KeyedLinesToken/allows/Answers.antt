use Rattle.std.proofs.Common.{true, sym, ◌∙◌}
use Rattle.cg_join.specs.Keyed.{IsKeyed}
use Rattle.cg_join.specs.KeyedStateLaws.{over_begins, value_begins}
use Rattle.cg_join.specs.WordStartLaws.{SpellsWord}
use Rattle.cg_text.specs.contracts.word.WordTextToken.TheImpl as word_text
use Rattle.cg_join.proofs.keyed.KeyedLinesToken.allows.Goals as goal

pub returns-then-byte-self : goal.returns-then-byte-self
returns-then-byte-self g c =
    let old = c.args.self.now in
    let k = g.C.Collection.key_of in
    let v = g.C.Collection.value_of in
    let given = g.C.Collection.given in
    let items = g.C.Collection.pairs_of old.pairs in
    let bare_value = g.B.MakeValue.bare_value old.values in
    let K = word_text.ghosts.means old.key in
    let D = g.V.Token.means old.value in
    let R = IsKeyed k v (SpellsWord old.keys.controller) (g.B.MakeToken.texts old.values) bare_value old.delimiter in
    let ends = g.V.Token.ends_is old.value in
    let all = over_begins k v given items R K D bare_value old.delimiter old.end true old.ended.items g.C.Collection.paired g.C.Collection.has_key g.C.Collection.has_value old.distinct (rw c.in-InValue.is at old.kept) old.value_end in
    rw (c.in-InValue.is, c.if-byte-self.true) (λ h. all.0 (ends.0 (sym c.can_end.ensures ∙ h)), λ h. c.can_end.ensures ∙ ends.1 (all.1 h))

pub returns-else-byte-self : goal.returns-else-byte-self
returns-else-byte-self g c =
    let old = c.args.self.now in
    let k = g.C.Collection.key_of in
    let v = g.C.Collection.value_of in
    let given = g.C.Collection.given in
    let items = g.C.Collection.pairs_of old.pairs in
    let bare_value = g.B.MakeValue.bare_value old.values in
    let K = word_text.ghosts.means old.key in
    let D = g.V.Token.means old.value in
    let R = IsKeyed k v (SpellsWord old.keys.controller) (g.B.MakeToken.texts old.values) bare_value old.delimiter in
    let all = value_begins k v given items R K D bare_value old.delimiter old.end true old.ended.items g.C.Collection.paired
    g.C.Collection.has_key g.C.Collection.has_value old.distinct
    (rw c.in-InValue.is at old.kept) c.args.byte c.if-byte-self.false in
    rw c.in-InValue.is (λ h. all.0 (c.allows.ensures.0 h), λ h. c.allows.ensures.1 (all.1 h))
