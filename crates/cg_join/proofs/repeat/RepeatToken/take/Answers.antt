use Rattle.std.proofs.Common.{◌∙◌, arith}
use Rattle.cg_join.specs.RepeatLaws.{out_size_pushed}
use Rattle.cg_join.proofs.repeat.RepeatToken.take.Goals as goal

pub returns-clause-value_size : goal.returns-clause-value_size
returns-clause-value_size g c =
    let v = c.take.result in
    omega (arith, out_size_pushed g.T.Token.value_size c.of.result c.args.self.items.items v (c.of.ensures ∙ c.put.ensures), c.take.ensures.value_size)
