use Rattle.cg_text.specs.TokenLaws.{if_err_as}
use Rattle.cg_join.specs.LinesLaws.{lacks_same}
use Rattle.std.proofs.Common.{◌≡◌, true, [], ◌∷◌, ◌++◌, map, ◌∙◌, ap, sym}
use Rattle.cg_join.specs.Keyed.{IsKeyed}
use Rattle.cg_join.specs.KeyedLaws.{distinct_last, keyed_alike, popped, distinct_added, distinct_first}
use Rattle.cg_join.specs.KeyedStateLaws.{over_refused, rest_one, value_refused, value_same, value_step, value_taken, over_begins, value_begins}
use Rattle.cg_join.specs.PairsLaws.{lacks_stepped}
use Rattle.cg_join.specs.SettledLaws.{begun_value, marked_value}
use Rattle.cg_join.specs.WordStartLaws.{SpellsWord}
use Rattle.cg_text.specs.contracts.word.WordTextToken.TheImpl as word_text
use Rattle.cg_join.proofs.keyed.KeyedLines.step_value.Goals as goal

pub invariant_of-self : goal.invariant_of-self
invariant_of-self g c =
    let old = c.args.self.now in
    let bare_value = g.B.MakeValue.bare_value old.values in
    let D = g.V.Token.means old.value in
    record {
      key_delimiter = old.key_delimiter;
      key_end = old.key_end;
      value_end = lacks_stepped old.end c.step.result D (g.V.Token.means c.step.new.self) c.args.byte c.step.ensures.taken c.step.ensures.same old.value_end;
      apart = old.apart;
      small_delimiter = old.small_delimiter;
      small_end = old.small_end;
      keys_delimiter = old.keys_delimiter;
      keys_end = old.keys_end;
      values_end = old.values_end;
      new_key = λ e. absurd (begun_value old.stage c.requires e);
      new_value = λ e. absurd (marked_value old.stage c.requires e);
      kept = old.kept;
      distinct = old.distinct;
    }

pub returns-then-byte-self-clause-taken : goal.returns-then-byte-self-clause-taken
returns-then-byte-self-clause-taken g c =
    let old = c.args.self.now in
    let k = g.C.Collection.key_of in
    let v = g.C.Collection.value_of in
    let given = g.C.Collection.given in
    let items = g.C.Collection.pairs_of old.pairs in
    let bare_value = g.B.MakeValue.bare_value old.values in
    let K = word_text.ghosts.means old.key in
    let D = g.V.Token.means old.value in
    let R = IsKeyed k v (SpellsWord old.keys.controller) (g.B.MakeToken.texts old.values) bare_value old.delimiter in
    rw c.requires (value_taken k v given items R K D bare_value old.delimiter old.end true old.ended.items c.step.result (g.V.Token.means c.step.new.self) c.args.byte c.if-byte-self.true c.step.ensures.taken)

pub returns-then-byte-self-clause-refused : goal.returns-then-byte-self-clause-refused
returns-then-byte-self-clause-refused g c =
    let old = c.args.self.now in
    let k = g.C.Collection.key_of in
    let v = g.C.Collection.value_of in
    let given = g.C.Collection.given in
    let items = g.C.Collection.pairs_of old.pairs in
    let bare_value = g.B.MakeValue.bare_value old.values in
    let K = word_text.ghosts.means old.key in
    let D = g.V.Token.means old.value in
    let R = IsKeyed k v (SpellsWord old.keys.controller) (g.B.MakeToken.texts old.values) bare_value old.delimiter in
    rw c.requires (value_refused k v given items R K D bare_value old.delimiter old.end true old.ended.items c.step.result c.args.byte c.if-byte-self.true c.step.ensures.refused)

pub returns-then-byte-self-clause-same : goal.returns-then-byte-self-clause-same
returns-then-byte-self-clause-same g c =
    let old = c.args.self.now in
    let k = g.C.Collection.key_of in
    let v = g.C.Collection.value_of in
    let given = g.C.Collection.given in
    let items = g.C.Collection.pairs_of old.pairs in
    let bare_value = g.B.MakeValue.bare_value old.values in
    let K = word_text.ghosts.means old.key in
    let D = g.V.Token.means old.value in
    let R = IsKeyed k v (SpellsWord old.keys.controller) (g.B.MakeToken.texts old.values) bare_value old.delimiter in
    rw c.requires (value_same k v given items R K D bare_value old.delimiter old.end true old.ended.items c.step.result (g.V.Token.means c.step.new.self) c.step.ensures.same)

pub returns-then-not-can_end-clause-refused : goal.returns-then-not-can_end-clause-refused
returns-then-not-can_end-clause-refused g c =
    let old = c.args.self.now in
    let k = g.C.Collection.key_of in
    let v = g.C.Collection.value_of in
    let given = g.C.Collection.given in
    let items = g.C.Collection.pairs_of old.pairs in
    let bare_value = g.B.MakeValue.bare_value old.values in
    let K = word_text.ghosts.means old.key in
    let D = g.V.Token.means old.value in
    let R = IsKeyed k v (SpellsWord old.keys.controller) (g.B.MakeToken.texts old.values) bare_value old.delimiter in
    rw (c.requires, c.if-byte-self.false)
    (over_refused k v given items R K D bare_value old.delimiter old.end true old.ended.items old.value_end
    (λ x h. absurd (let t : g.V.Token.ends old.value ≡ true = (g.V.Token.ends_is old.value).1 (x, h) in let f = c.if-not-can_end.true in let q = c.can_end.ensures in cc)))

pub push-requires-clause-new : goal.push-requires-clause-new
push-requires-clause-new g c =
    let old = c.args.self.now in
    let k = g.C.Collection.key_of in
    let items = g.C.Collection.pairs_of old.pairs in
    let key = c.in-Some.key in
    let last = popped old.ended.items c.pop.new.self.items key (rw c.requires at old.kept) c.in-Some.ensures.items in
    rw c.reserve.ensures.pairs (distinct_last (map k items) key (rw last.0 at old.distinct))

pub returns-clause-taken : goal.returns-clause-taken
returns-clause-taken g c =
    let old = c.args.self.now in
    let k = g.C.Collection.key_of in
    let v = g.C.Collection.value_of in
    let given = g.C.Collection.given in
    let items = g.C.Collection.pairs_of old.pairs in
    let bare_value = g.B.MakeValue.bare_value old.values in
    let K = word_text.ghosts.means old.key in
    let D = g.V.Token.means old.value in
    let R = IsKeyed k v (SpellsWord old.keys.controller) (g.B.MakeToken.texts old.values) bare_value old.delimiter in
    let key = c.in-Some.key in
    let value = c.renew-value.result in
    let last = popped old.ended.items c.pop.new.self.items key (rw c.requires at old.kept) c.in-Some.ensures.items in
    let p = g.C.Collection.paired key value in
    let added : g.C.Collection.pairs_of c.push.new.self ≡ items ++ p ∷ [] = c.push.ensures.pairs ∙ ap (λ x. x ++ p ∷ []) c.reserve.ensures.pairs in
    let hk = g.C.Collection.has_key key value in
    let hv = g.C.Collection.has_value key value in
    let F = IsKeyed k v (word_text.ghosts.means c.start.result) (g.V.Token.means c.renew-value.new.token) bare_value old.delimiter in
    rw (c.requires, c.if-byte-self.false)
    (value_step k v given items R K D bare_value old.delimiter old.end true old.ended.items old.value_end
    (rest_one k v K D bare_value old.delimiter old.ended.items g.C.Collection.paired g.C.Collection.whole old.key_delimiter
    (word_text.ghosts.one_value old.key) (g.V.Token.one_value old.value) true)
    p (rw hk last.0) (rw hv c.renew-value.ensures.value) (g.C.Collection.pairs_of c.push.new.self) added F
    (keyed_alike k v bare_value old.delimiter (word_text.ghosts.means c.start.result) (SpellsWord old.keys.controller) (g.V.Token.means c.renew-value.new.token) (g.B.MakeToken.texts old.values) c.start.ensures.spells.is c.renew-value.ensures.spells.is))

pub returns-then-byte-self-clause-last : goal.returns-then-byte-self-clause-last
returns-then-byte-self-clause-last g c =
    let old = c.args.self.now in
    let k = g.C.Collection.key_of in
    let v = g.C.Collection.value_of in
    let given = g.C.Collection.given in
    let items = g.C.Collection.pairs_of old.pairs in
    let bare_value = g.B.MakeValue.bare_value old.values in
    let K = word_text.ghosts.means old.key in
    let D = g.V.Token.means old.value in
    let R = IsKeyed k v (SpellsWord old.keys.controller) (g.B.MakeToken.texts old.values) bare_value old.delimiter in
    rw c.requires (if_err_as c.step.result
    (value_begins k v given items R K D bare_value old.delimiter old.end true old.ended.items g.C.Collection.paired
    g.C.Collection.has_key g.C.Collection.has_value old.distinct
    (rw c.requires at old.kept) c.args.byte c.if-byte-self.true).0 c.step.ensures.last)

pub returns-in-Err-clause-last : goal.returns-in-Err-clause-last
returns-in-Err-clause-last g c =
    let old = c.args.self.now in
    let k = g.C.Collection.key_of in
    let v = g.C.Collection.value_of in
    let given = g.C.Collection.given in
    let items = g.C.Collection.pairs_of old.pairs in
    let bare_value = g.B.MakeValue.bare_value old.values in
    let K = word_text.ghosts.means old.key in
    let D = g.V.Token.means old.value in
    let R = IsKeyed k v (SpellsWord old.keys.controller) (g.B.MakeToken.texts old.values) bare_value old.delimiter in
    rw (c.requires, c.if-byte-self.false)
    ((over_begins k v given items R K D bare_value old.delimiter old.end true old.ended.items g.C.Collection.paired
    g.C.Collection.has_key g.C.Collection.has_value old.distinct (rw c.requires at old.kept) old.value_end).0
    ((g.V.Token.ends_is old.value).0 (sym c.can_end.ensures ∙ c.if-not-can_end.false)))

pub invariant_of-self-2-clause-key_delimiter : goal.invariant_of-self-2-clause-key_delimiter
invariant_of-self-2-clause-key_delimiter g c =
    let old = c.args.self.now in
    lacks_same old.delimiter (SpellsWord old.keys.controller) (word_text.ghosts.means c.start.result) c.start.ensures.spells.is old.keys_delimiter

pub invariant_of-self-2-clause-key_end : goal.invariant_of-self-2-clause-key_end
invariant_of-self-2-clause-key_end g c =
    let old = c.args.self.now in
    lacks_same old.end (SpellsWord old.keys.controller) (word_text.ghosts.means c.start.result) c.start.ensures.spells.is old.keys_end

pub invariant_of-self-2-clause-value_end : goal.invariant_of-self-2-clause-value_end
invariant_of-self-2-clause-value_end g c =
    let old = c.args.self.now in
    lacks_same old.end (g.B.MakeToken.texts old.values) (g.V.Token.means c.renew-value.new.token) c.renew-value.ensures.spells.is old.values_end

pub invariant_of-self-2-clause-distinct : goal.invariant_of-self-2-clause-distinct
invariant_of-self-2-clause-distinct g c =
    let old = c.args.self.now in
    let k = g.C.Collection.key_of in
    let items = g.C.Collection.pairs_of old.pairs in
    let key = c.in-Some.key in
    let value = c.renew-value.result in
    let last = popped old.ended.items c.pop.new.self.items key (rw c.requires at old.kept) c.in-Some.ensures.items in
    let p = g.C.Collection.paired key value in
    let added : g.C.Collection.pairs_of c.push.new.self ≡ items ++ p ∷ [] = c.push.ensures.pairs ∙ ap (λ x. x ++ p ∷ []) c.reserve.ensures.pairs in
    let hk = g.C.Collection.has_key key value in
    distinct_added k items (g.C.Collection.pairs_of c.push.new.self) p c.pop.new.self.items added last.1 (distinct_first (map k items) old.ended.items old.distinct) (rw hk (distinct_last (map k items) key (rw last.0 at old.distinct)))
