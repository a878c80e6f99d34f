use Rattle.std.proofs.Common.{refl}
use Rattle.cg_text.specs.Param.{IsParam}
use Rattle.cg_join.specs.StartLaws.{lacks_stops}
use Rattle.cg_join.specs.WordStartLaws.{word_only}
use Rattle.cg_file.specs.ParamFileLaws.{param_lacks_space}
use Rattle.cg_file.proofs.device_params.ParamPairs.new.Goals as goal

pub joined-requires-clause-lacks : goal.joined-requires-clause-lacks
joined-requires-clause-lacks c = word_only c.new-words.result.controller 61 (λ h. h.2 refl)

pub joined-requires-clause-stops : goal.joined-requires-clause-stops
joined-requires-clause-stops c = lacks_stops (λ text value. IsParam value text) 32 param_lacks_space

pub returns-clause-spells : goal.returns-clause-spells
returns-clause-spells c = let whole = let whole = c.joined.ensures.spells in rw c.new-words.ensures at whole in record { is = whole.is }
