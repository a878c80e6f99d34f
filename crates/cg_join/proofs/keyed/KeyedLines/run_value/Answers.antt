use Rattle.std.proofs.Common.{take}
use Rattle.cg_join.specs.Keyed.{IsKeyed}
use Rattle.cg_join.specs.PartRunLaws.{line_value_run}
use Rattle.cg_join.specs.ScanLaws.{lacks_run}
use Rattle.cg_join.specs.SettledLaws.{begun_value, marked_value}
use Rattle.cg_join.specs.WordStartLaws.{SpellsWord}
use Rattle.cg_text.specs.contracts.word.WordTextToken.TheImpl as word_text
use Rattle.cg_join.proofs.keyed.KeyedLines.run_value.Goals as goal

pub invariant_of-self : goal.invariant_of-self
invariant_of-self g c =
    let old = c.args.self.now in
    record {
      key_delimiter = old.key_delimiter;
      key_end = old.key_end;
      value_end = lacks_run old.end (g.V.Token.means old.value) (g.V.Token.means c.push_count.new.token) (take c.push_count.result c.args.bytes.now) c.push_count.ensures.follows old.value_end;
      apart = old.apart;
      small_delimiter = old.small_delimiter;
      small_end = old.small_end;
      keys_delimiter = old.keys_delimiter;
      keys_end = old.keys_end;
      values_end = old.values_end;
      new_key = λ e. absurd (begun_value old.stage c.requires e);
      new_value = λ e. absurd (marked_value old.stage c.requires e);
      kept = old.kept;
      distinct = old.distinct;
    }

pub returns-clause-follows : goal.returns-clause-follows
returns-clause-follows g c =
    let old = c.args.self.now in
    let k = g.C.Collection.key_of in
    let v = g.C.Collection.value_of in
    let given = g.C.Collection.given in
    let items = g.C.Collection.pairs_of old.pairs in
    let bare_value = g.B.MakeValue.bare_value old.values in
    let K = word_text.ghosts.means old.key in
    let R = IsKeyed k v (SpellsWord old.keys.controller) (g.B.MakeToken.texts old.values) bare_value old.delimiter in
    let new = c.push_count.new.token in
    rw c.requires (line_value_run k v given items R bare_value old.delimiter old.end K old.ended.items (g.V.Token.means old.value) (g.V.Token.means new)
    (take c.push_count.result c.args.bytes.now) old.value_end (g.V.Token.completes new) c.push_count.ensures.follows)
