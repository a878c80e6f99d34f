use Rattle.std.proofs.Common.{refl}
use Rattle.cg_text.specs.Amount.{IsAmount}
use Rattle.cg_join.specs.StartLaws.{lacks_stops}
use Rattle.cg_join.specs.WordStartLaws.{word_only}
use Rattle.cg_file.specs.StatFileLaws.{amount_lacks_space}
use Rattle.cg_file.proofs.device_stats.StatPairs.new.Goals as goal

pub joined-requires-clause-lacks : goal.joined-requires-clause-lacks
joined-requires-clause-lacks c = word_only c.new-words.result.controller 61 (λ h. h.2 refl)

pub joined-requires-clause-stops : goal.joined-requires-clause-stops
joined-requires-clause-stops c = lacks_stops (λ text amount. IsAmount c.args.kernel amount text) 32 (amount_lacks_space c.args.kernel)

pub returns-clause-spells : goal.returns-clause-spells
returns-clause-spells c = let whole = let whole = c.joined.ensures.spells in rw c.new-words.ensures at whole in record { is = whole.is }
