use Rattle.std.proofs.Common.{take, sym, ◌∙◌}
use Rattle.cg_text.specs.NameLaws.{front_after, some_taken}
use Rattle.cg_text.proofs.name.NameTextSteps.take_run.Goals as goal

pub invariant_of-self : goal.invariant_of-self
invariant_of-self c =
    let s = c.args.self.now in
    let new = c.push_count.new.token in
    let run = take c.push_count.result c.args.bytes.now in
    record {
      front = front_after s.word.controller new.controller s.word.bytes.items new.bytes.items run new.sound s.front
          (some_taken s.word.bytes.items run (sym c.can_end.ensures ∙ c.if-not-can_end.false)) c.push_count.ensures.follows;
    }
