use Rattle.cg_text.specs.LimitPairsLaws.{limits_value}
use Rattle.cg_text.proofs.pairs.LimitPairsTextToken.take.Goals as goal

pub returns-clause-value : goal.returns-clause-value
returns-clause-value c =
    rw (c.in-InLimit.is, c.with_limit.ensures) (limits_value c.args.self.given c.in-InLimit.key c.in-InLimit.limit c.limit_value.result c.limit_value.ensures)
