use Rattle.std.proofs.Common.{[], append-nil, refl, sym, arith}
use Rattle.cg_join.specs.Pairs.{IsPairText}
use Rattle.cg_join.specs.PairsState.{IsCompleted, WordAtHand, before_last}
use Rattle.cg_join.specs.PairsLaws.{pairs_value}
use Rattle.cg_join.specs.PairsStateLaws.{completed_distinct, completed_size}
use Rattle.cg_join.specs.declared.pairs.Stage.TheVariants.{InValue}
use Rattle.cg_join.specs.WordStartLaws.{SpellsWord}
use Rattle.cg_text.specs.contracts.word.WordTextToken.TheImpl as word_text
use Rattle.cg_join.proofs.pairs.DistinctPairsToken.take.Goals as goal

pub returns-in-Before-clause-value : goal.returns-in-Before-clause-value
returns-in-Before-clause-value g c =
    let old = c.args.self in
    rw (c.in-Before.is, c.finish.ensures) (([], sym (append-nil old.items.items), refl), old.distinct)

pub returns-clause-value : goal.returns-clause-value
returns-clause-value g c =
    let old = c.args.self in
    let w = g.F.Pairing.word_of in
    let v = g.F.Pairing.value_of in
    let K = WordAtHand w InValue old.items.items (word_text.ghosts.means old.word) in
    let D = g.V.Token.means old.value in
    let R = IsPairText w v (SpellsWord old.words.controller) (g.B.MakeToken.texts old.values) old.delimiter in
    let y = c.take.result in
    let done : IsCompleted w v old.items.items y c.finish-in-InValue.result = rw c.finish-in-InValue.ensures c.complete_last.ensures in
    rw c.in-InValue.is
    (pairs_value w v old.delimiter old.separator (before_last old.items.items) R K D done.pair c.finish-in-InValue.result done.items done.has_word (rw done.has_value c.take.ensures.value)
    (completed_distinct w v old.items.items c.finish-in-InValue.result y done old.distinct))

pub returns-clause-value_size : goal.returns-clause-value_size
returns-clause-value_size g c =
    let old = c.args.self in
    let w = g.F.Pairing.word_of in
    let v = g.F.Pairing.value_of in
    let y = c.take.result in
    let done : IsCompleted w v old.items.items y c.finish-in-InValue.result = rw c.finish-in-InValue.ensures c.complete_last.ensures in
    let value_size = completed_size w v word_text.ghosts.value_size g.V.Token.value_size old.items.items c.finish-in-InValue.result y done (old.awaits c.in-InValue.is) in
    omega (arith, value_size, c.take.ensures.value_size)
