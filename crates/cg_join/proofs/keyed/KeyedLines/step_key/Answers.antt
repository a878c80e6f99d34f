use Rattle.cg_join.specs.KeyedLaws.{distinct_first}
use Rattle.std.proofs.Common.{[], ◌∷◌, map}
use Rattle.cg_join.specs.Keyed.{IsKeyed}
use Rattle.cg_join.specs.KeyedState.{is_begun}
use Rattle.cg_join.specs.KeyedStateLaws.{key_refused, key_same, key_taken, key_begins}
use Rattle.cg_join.specs.LinesLaws.{lacks_taken}
use Rattle.cg_join.specs.WordStartLaws.{SpellsWord, word_new}
use Rattle.cg_text.specs.contracts.word.WordTextToken.TheImpl as word_text
use Rattle.cg_join.proofs.keyed.KeyedLines.step_key.Goals as goal

pub returns-then-byte-self-clause-taken : goal.returns-then-byte-self-clause-taken
returns-then-byte-self-clause-taken g c =
    rw c.if-byte-self.true c.end_key.ensures.taken

pub returns-then-byte-self-clause-refused : goal.returns-then-byte-self-clause-refused
returns-then-byte-self-clause-refused g c =
    rw c.if-byte-self.true c.end_key.ensures.refused

pub returns-then-byte-self-2-clause-taken : goal.returns-then-byte-self-2-clause-taken
returns-then-byte-self-2-clause-taken g c =
    rw c.if-byte-self-2.true c.end_alone.ensures.taken

pub returns-then-byte-self-2-clause-refused : goal.returns-then-byte-self-2-clause-refused
returns-then-byte-self-2-clause-refused g c =
    rw c.if-byte-self-2.true c.end_alone.ensures.refused

pub invariant_of-self : goal.invariant_of-self
invariant_of-self g c =
    let old = c.args.self.now in
    let bare_value = g.B.MakeValue.bare_value old.values in
    let K = word_text.ghosts.means old.key in
    let taken = rw c.in-Ok-true.field-0-test at c.in-Ok-true.ensures.taken in
    let K' = word_text.ghosts.means c.step.new.self in
    record {
      key_delimiter = lacks_taken old.delimiter K K' c.args.byte taken old.key_delimiter;
      key_end = lacks_taken old.end K K' c.args.byte taken old.key_end;
      value_end = old.value_end;
      apart = old.apart;
      small_delimiter = old.small_delimiter;
      small_end = old.small_end;
      keys_delimiter = old.keys_delimiter;
      keys_end = old.keys_end;
      values_end = old.values_end;
      new_key = λ e. absurd (cc);
      new_value = λ _. old.new_value c.requires;
      kept = rw c.requires at old.kept;
      distinct = old.distinct;
    }

pub returns-in-Ok-true-clause-taken : goal.returns-in-Ok-true-clause-taken
returns-in-Ok-true-clause-taken g c =
    let old = c.args.self.now in
    let k = g.C.Collection.key_of in
    let v = g.C.Collection.value_of in
    let given = g.C.Collection.given in
    let items = g.C.Collection.pairs_of old.pairs in
    let bare_value = g.B.MakeValue.bare_value old.values in
    let K = word_text.ghosts.means old.key in
    let D = g.V.Token.means old.value in
    let R = IsKeyed k v (SpellsWord old.keys.controller) (g.B.MakeToken.texts old.values) bare_value old.delimiter in
    let taken = rw c.in-Ok-true.field-0-test at c.in-Ok-true.ensures.taken in
    rw c.requires (key_taken k v given items R K D bare_value old.delimiter old.end (is_begun old.stage) (word_text.ghosts.means c.step.new.self) c.args.byte c.if-byte-self.false c.if-byte-self-2.false taken)

pub returns-in-Ok-false-clause-refused : goal.returns-in-Ok-false-clause-refused
returns-in-Ok-false-clause-refused g c =
    let old = c.args.self.now in
    let k = g.C.Collection.key_of in
    let v = g.C.Collection.value_of in
    let given = g.C.Collection.given in
    let items = g.C.Collection.pairs_of old.pairs in
    let bare_value = g.B.MakeValue.bare_value old.values in
    let K = word_text.ghosts.means old.key in
    let D = g.V.Token.means old.value in
    let R = IsKeyed k v (SpellsWord old.keys.controller) (g.B.MakeToken.texts old.values) bare_value old.delimiter in
    let none = rw c.in-Ok-false.field-0-test at c.in-Ok-false.ensures.refused in
    rw c.requires (key_refused k v given items R K D bare_value old.delimiter old.end (is_begun old.stage) c.args.byte c.if-byte-self.false c.if-byte-self-2.false none)

pub returns-in-Ok-false-clause-same : goal.returns-in-Ok-false-clause-same
returns-in-Ok-false-clause-same g c =
    let old = c.args.self.now in
    let k = g.C.Collection.key_of in
    let v = g.C.Collection.value_of in
    let given = g.C.Collection.given in
    let items = g.C.Collection.pairs_of old.pairs in
    let bare_value = g.B.MakeValue.bare_value old.values in
    let K = word_text.ghosts.means old.key in
    let D = g.V.Token.means old.value in
    let R = IsKeyed k v (SpellsWord old.keys.controller) (g.B.MakeToken.texts old.values) bare_value old.delimiter in
    let same = rw c.in-Ok-false.field-0-test at c.in-Ok-false.ensures.same in
    rw c.requires (key_same k v given items R K D bare_value old.delimiter old.end (is_begun old.stage) (word_text.ghosts.means c.step.new.self) same)

pub returns-in-Err-clause-same : goal.returns-in-Err-clause-same
returns-in-Err-clause-same g c =
    let old = c.args.self.now in
    let k = g.C.Collection.key_of in
    let v = g.C.Collection.value_of in
    let given = g.C.Collection.given in
    let items = g.C.Collection.pairs_of old.pairs in
    let bare_value = g.B.MakeValue.bare_value old.values in
    let K = word_text.ghosts.means old.key in
    let D = g.V.Token.means old.value in
    let R = IsKeyed k v (SpellsWord old.keys.controller) (g.B.MakeToken.texts old.values) bare_value old.delimiter in
    rw c.requires (key_same k v given items R K D bare_value old.delimiter old.end (is_begun old.stage) (word_text.ghosts.means c.step.new.self) c.in-Err.ensures.same)

pub returns-then-byte-self-clause-last : goal.returns-then-byte-self-clause-last
returns-then-byte-self-clause-last g c =
    rw c.if-byte-self.true c.end_key.ensures.last

pub returns-then-byte-self-2-clause-last : goal.returns-then-byte-self-2-clause-last
returns-then-byte-self-2-clause-last g c =
    rw c.if-byte-self-2.true c.end_alone.ensures.last

pub returns-in-Err-clause-last : goal.returns-in-Err-clause-last
returns-in-Err-clause-last g c =
    let old = c.args.self.now in
    let k = g.C.Collection.key_of in
    let v = g.C.Collection.value_of in
    let given = g.C.Collection.given in
    let items = g.C.Collection.pairs_of old.pairs in
    let bare_value = g.B.MakeValue.bare_value old.values in
    let K = word_text.ghosts.means old.key in
    let D = g.V.Token.means old.value in
    let R = IsKeyed k v (SpellsWord old.keys.controller) (g.B.MakeToken.texts old.values) bare_value old.delimiter in
    let first = distinct_first (map k items) old.ended.items old.distinct in
    rw c.requires ((key_begins k v given items R K D bare_value old.delimiter old.end
    (is_begun old.stage) g.C.Collection.paired g.C.Collection.has_key g.C.Collection.has_value first
    (g.V.Token.completes old.value) c.args.byte c.if-byte-self.false c.if-byte-self-2.false
    (λ h. word_new old.key.controller old.key.bytes.items (c.args.byte ∷ []) h (map k items))).0 c.in-Err.ensures.last)
