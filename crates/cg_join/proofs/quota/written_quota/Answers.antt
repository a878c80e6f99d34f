use Rattle.std.proofs.Common.{arith}
use Rattle.cg_join.specs.ApartLaws.{lacking_apart}
use Rattle.cg_join.specs.BeginsLaws.{label_begins, maybe_begins_by}
use Rattle.cg_join.specs.CutLaws.{label_spells}
use Rattle.cg_join.specs.FilledLaws.{fixed_filled, first_filled, filled_spelled}
use Rattle.cg_join.specs.LackingLaws.{limit_lacking}
use Rattle.cg_join.specs.MaybeLaws.{maybe_spells}
use Rattle.cg_join.specs.Spelling.{apart_spells, sequence_spells}
use Rattle.cg_join.proofs.quota.written_quota.Goals as goal

pub new-requires-clause-filled : goal.new-requires-clause-filled
new-requires-clause-filled c = filled_spelled c.spaced-period.ensures.spells (first_filled (fixed_filled 32 _))

pub new-requires-2 : goal.new-requires-2
new-requires-2 c =
    let period = maybe_spells (label_spells c.decimal_in.ensures.spells c.spaced-period.ensures.spells) c.new.ensures.spells in
    apart_spells c.limit_in-quota.ensures.spells period (lacking_apart (limit_lacking 32 1000 18446744073709551615 (omega arith)) (maybe_begins_by (label_begins 32 _)))

pub returns-clause-spells : goal.returns-clause-spells
returns-clause-spells c =
    let period = maybe_spells (label_spells c.decimal_in.ensures.spells c.spaced-period.ensures.spells) c.new.ensures.spells in
    sequence_spells c.limit_in-quota.ensures.spells period c.new-2.ensures.spells
