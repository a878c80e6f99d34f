use Rattle.std.proofs.Common.{length, sym, ◌∙◌, ap, arith}
use Rattle.cg_value.specs.LinesOfLaws.{cut_lines, cut_whole, plain_none}
use Rattle.cg_value.proofs.raw_lines.LinesInIterator.next.Goals as goal

pub invariant_of-self : goal.invariant_of-self
invariant_of-self c = cut_whole c.self.inside.rest.now c.in-Some.line.now c.in-Some.behind.now c.in-Some.ensures.0 c.in-Some.ensures.1 c.self.invariant

pub returns-in-Some-clause-steps : goal.returns-in-Some-clause-steps
returns-in-Some-clause-steps c = sym c.self.view_is ∙ cut_lines c.self.inside.rest.now c.in-Some.line.now c.in-Some.behind.now c.in-Some.ensures.0 c.in-Some.ensures.1

pub returns-in-Some-clause-goes : goal.returns-in-Some-clause-goes
returns-in-Some-clause-goes c =
    let cut = ap length (sym c.self.view_is ∙ cut_lines c.self.inside.rest.now c.in-Some.line.now c.in-Some.behind.now c.in-Some.ensures.0 c.in-Some.ensures.1) in
    record { on = λ _. (tt, tt, omega (arith, cut)); keeps = tt; rests = λ _. tt }

pub returns-in-None-clause-steps : goal.returns-in-None-clause-steps
returns-in-None-clause-steps c =
    let none = sym c.self.view_is ∙ plain_none c.self.inside.rest.now c.in-None.ensures c.self.invariant in
    (none, none)
