use Rattle.cg_join.specs.Pairs.{IsPairText}
use Rattle.cg_join.specs.PairsLaws.{step_first}
use Rattle.cg_join.specs.WordStartLaws.{SpellsWord}
use Rattle.cg_text.specs.contracts.word.WordTextToken.TheImpl as word_text
use Rattle.cg_join.proofs.pairs.DistinctPairsSteps.take_byte.Goals as goal

pub returns-else-byte-self-clause-taken : goal.returns-else-byte-self-clause-taken
returns-else-byte-self-clause-taken g c =
    let old = c.args.self.now in
    let w = g.F.Pairing.word_of in
    let v = g.F.Pairing.value_of in
    let paired = g.F.Pairing.paired in
    let hw = g.F.Pairing.has_word in
    let hv = g.F.Pairing.has_value in
    let K = word_text.ghosts.means old.word in
    let D = g.V.Token.means old.value in
    let R = IsPairText w v (SpellsWord old.words.controller) (g.B.MakeToken.texts old.values) old.delimiter in
    rw (c.in-Before.is, c.if-byte-self.false) (step_first w v old.delimiter old.separator old.items.items R K D)
