use Rattle.std.proofs.Common.{◌≡◌, ◌<◌, length, take, arith}
use Rattle.cg_join.specs.Keyed.{IsKeyed}
use Rattle.cg_join.specs.KeyedState.{is_begun}
use Rattle.cg_join.specs.KeyedStateLaws.{key_same}
use Rattle.cg_join.specs.PartRunLaws.{key_run}
use Rattle.cg_join.specs.ScanLaws.{lacks_run, some_taken}
use Rattle.cg_join.specs.WordStartLaws.{SpellsWord}
use Rattle.cg_text.specs.contracts.word.WordTextToken.TheImpl as word_text
use Rattle.cg_join.proofs.keyed.KeyedLines.run_key.Goals as goal

pub invariant_of-self-clause-key_delimiter : goal.invariant_of-self-clause-key_delimiter
invariant_of-self-clause-key_delimiter g c =
    let old = c.args.self.now in
    lacks_run old.delimiter (word_text.ghosts.means old.key) (word_text.ghosts.means c.push_count-count.new.token) (take c.push_count-count.result c.args.bytes.now) c.push_count-count.ensures.follows old.key_delimiter

pub invariant_of-self-clause-key_end : goal.invariant_of-self-clause-key_end
invariant_of-self-clause-key_end g c =
    let old = c.args.self.now in
    lacks_run old.end (word_text.ghosts.means old.key) (word_text.ghosts.means c.push_count-count.new.token) (take c.push_count-count.result c.args.bytes.now) c.push_count-count.ensures.follows old.key_end

pub returns-then-count-gt0-clause-follows : goal.returns-then-count-gt0-clause-follows
returns-then-count-gt0-clause-follows g c =
    let old = c.args.self.now in
    let k = g.C.Collection.key_of in
    let v = g.C.Collection.value_of in
    let given = g.C.Collection.given in
    let items = g.C.Collection.pairs_of old.pairs in
    let bare_value = g.B.MakeValue.bare_value old.values in
    let K = word_text.ghosts.means old.key in
    let D = g.V.Token.means old.value in
    let R = IsKeyed k v (SpellsWord old.keys.controller) (g.B.MakeToken.texts old.values) bare_value old.delimiter in
    let new = c.push_count-count.new.token in
    let run = take c.push_count-count.result c.args.bytes.now in
    let some : 0 < length run = some_taken c.push_count-count.result c.args.bytes.now (omega (arith, c.if-count-gt0.true)) c.push_count-count.ensures.within in
    rw c.requires (key_run k v given items R bare_value old.delimiter old.end D (is_begun old.stage) K (word_text.ghosts.means new) run some (old.key_delimiter, old.key_end) (word_text.ghosts.completes new) c.push_count-count.ensures.follows)

pub returns-else-count-gt0-clause-follows : goal.returns-else-count-gt0-clause-follows
returns-else-count-gt0-clause-follows g c =
    let old = c.args.self.now in
    let k = g.C.Collection.key_of in
    let v = g.C.Collection.value_of in
    let given = g.C.Collection.given in
    let items = g.C.Collection.pairs_of old.pairs in
    let bare_value = g.B.MakeValue.bare_value old.values in
    let K = word_text.ghosts.means old.key in
    let D = g.V.Token.means old.value in
    let R = IsKeyed k v (SpellsWord old.keys.controller) (g.B.MakeToken.texts old.values) bare_value old.delimiter in
    let none : c.push_count-count.result ≡ 0 = omega (arith, c.if-count-gt0.false) in
    rw (none, c.requires) (key_same k v given items R K D bare_value old.delimiter old.end (is_begun old.stage) (word_text.ghosts.means c.push_count-count.new.token) (rw none at c.push_count-count.ensures.follows))
