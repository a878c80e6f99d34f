use Rattle.std.proofs.Common.{◌≡◌, ◌∙◌, ap, arith}
use Rattle.cg_join.specs.Pairs.{pair_size}
use Rattle.cg_join.specs.RepeatLaws.{size_pushed}
use Rattle.cg_text.specs.contracts.word.WordTextToken.TheImpl as word_text
use Rattle.cg_join.proofs.pair_list.PairListCollection.push.Goals as goal

pub push-requires-clause-new : goal.push-requires-clause-new
push-requires-clause-new g c =
    let key : g.F.MakePair.key_of c.pair.result ≡ c.args.key = ap g.F.MakePair.key_of c.pair.ensures ∙ g.F.MakePair.has_key c.args.key c.args.value in
    rw (g.met.F.MakePair.keyed, key) c.requires.new

pub returns-clause-size : goal.returns-clause-size
returns-clause-size g c =
    let old = c.args.self.now in
    let k = word_text.ghosts.value_size in
    let d = g.V.Token.value_size in
    let f = pair_size g.F.MakePair.key_of g.F.MakePair.value_of k d in
    let p = c.pair.result in
    let key : g.F.MakePair.key_of p ≡ c.args.key = ap g.F.MakePair.key_of c.pair.ensures ∙ g.F.MakePair.has_key c.args.key c.args.value in
    let value : g.F.MakePair.value_of p ≡ c.args.value = ap g.F.MakePair.value_of c.pair.ensures ∙ g.F.MakePair.has_value c.args.key c.args.value in
    let a = ap k key in
    let b = ap d value in
    omega (arith, a, b, size_pushed f c.push.new.self.items old.pairs.items p c.push.ensures)
