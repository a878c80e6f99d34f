use Rattle.std.proofs.Common.{arith}
use Rattle.cg_join.specs.ApartLaws.{label_apart}
use Rattle.cg_join.specs.CutLaws.{label_spells}
use Rattle.cg_join.specs.LackingLaws.{limit_lacking}
use Rattle.cg_join.specs.Spelling.{apart_spells, sequence_spells}
use Rattle.cg_join.proofs.quota.quota_and_period.Goals as goal

pub new-requires : goal.new-requires
new-requires c =
    let period = label_spells c.decimal_in.ensures.spells c.spaced-period.ensures.spells in
    apart_spells c.limit_in-quota.ensures.spells period (label_apart (limit_lacking 32 0 18446744073709551615 (omega arith)))

pub returns-clause-spells : goal.returns-clause-spells
returns-clause-spells c =
    let period = label_spells c.decimal_in.ensures.spells c.spaced-period.ensures.spells in
    sequence_spells c.limit_in-quota.ensures.spells period c.new.ensures.spells
