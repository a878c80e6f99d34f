use Rattle.cg_text.specs.NameLaws.{front_stepped, name_stepped}
use Rattle.cg_text.proofs.name.NameTextSteps.take_byte.Goals as goal

pub invariant_of-self : goal.invariant_of-self
invariant_of-self c =
    let s = c.args.self.now in
    let new = c.step.new.self in
    record {
      front = front_stepped s.word.controller new.controller s.word.bytes.items new.bytes.items c.args.byte c.step.result new.sound s.front
          (c.may_begin.ensures.0 c.if-not-may_begin.false) c.step.ensures.taken c.step.ensures.same;
    }

pub returns-clause-taken : goal.returns-clause-taken
returns-clause-taken c =
    let s = c.args.self.now in
    let new = c.step.new.self in
    name_stepped s.word.controller new.controller s.word.bytes.items new.bytes.items c.args.byte c.step.result c.step.ensures.taken
