use Rattle.std.proofs.Common.{◌∙◌, arith, refl}
use Rattle.cg_join.specs.RepeatLaws.{out_size_pushed}
use Rattle.cg_join.specs.DistinctLaws.{distinct_value, ended_new}
use Rattle.cg_join.specs.TakenLaws.{own_lack}
use Rattle.cg_text.specs.WordState.{is_taken}
use Rattle.cg_join.specs.WordStartLaws.{SpellsWord, taken_is}
use Rattle.cg_text.specs.contracts.word.WordTextToken.TheImpl as word_text
use Rattle.cg_join.proofs.distinct.DistinctWordsToken.take.Goals as goal

pub push-requires-clause-new : goal.push-requires-clause-new
push-requires-clause-new c =
    let self = c.args.self in
    let v = c.take.result in
    own_lack v self.items.items self.items.items refl
    (ended_new (word_text.ghosts.means self.current) (SpellsWord self.start.controller) self.separator self.items.items (is_taken self.current.bytes.items) (word_text.ghosts.ends self.current)
    (taken_is self.current.controller self.current.bytes.items self.current.sound) c.requires v c.take.ensures.value)

pub returns-clause-value : goal.returns-clause-value
returns-clause-value c =
    let self = c.args.self in
    rw (c.finish.ensures, c.push.ensures)
    (distinct_value (word_text.ghosts.means self.current) (SpellsWord self.start.controller) self.separator self.items.items (is_taken self.current.bytes.items) (word_text.ghosts.ends self.current)
    (taken_is self.current.controller self.current.bytes.items self.current.sound) c.requires c.take.result c.take.ensures.value self.distinct)

pub returns-clause-value_size : goal.returns-clause-value_size
returns-clause-value_size c =
    let v = c.take.result in
    omega (arith, out_size_pushed word_text.ghosts.value_size c.finish.result c.args.self.items.items v (c.finish.ensures ∙ c.push.ensures), c.take.ensures.value_size)
