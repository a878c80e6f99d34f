use Rattle.std.proofs.Common.{map, sym, ◌∙◌, ap, arith}
use Rattle.cg_join.specs.Pairs.{pair_size}
use Rattle.cg_join.specs.RepeatLaws.{added_new, added_size}
use Rattle.cg_text.specs.contracts.word.WordTextToken.TheImpl as word_text
use Rattle.cg_join.proofs.pair_list.PairListCollection.add.Goals as goal

pub returns-clause-new : goal.returns-clause-new
returns-clause-new g c is =
    let key = ap g.F.MakePair.key_of c.pair.ensures ∙ g.F.MakePair.has_key c.args.key c.args.value in
    rw (g.met.F.MakePair.keyed, key) at (added_new c.add.result (g.F.Pair.HasKey.key_of c.pair.result) (map g.F.Pair.HasKey.key_of c.args.self.now.pairs.items) c.add.ensures.repeated (sym c.is_ok.ensures.value ∙ is))

pub returns-clause-size : goal.returns-clause-size
returns-clause-size g c =
    let k = word_text.ghosts.value_size in
    let d = g.V.Token.value_size in
    let f = pair_size g.F.MakePair.key_of g.F.MakePair.value_of k d in
    let p = c.pair.result in
    let key = ap k (ap g.F.MakePair.key_of c.pair.ensures ∙ g.F.MakePair.has_key c.args.key c.args.value) in
    let value = ap d (ap g.F.MakePair.value_of c.pair.ensures ∙ g.F.MakePair.has_value c.args.key c.args.value) in
    let size = added_size f c.add.result c.args.self.now.pairs.items c.add.new.self.items p c.add.ensures.ok c.add.ensures.err in
    omega (arith, key, value, size)
