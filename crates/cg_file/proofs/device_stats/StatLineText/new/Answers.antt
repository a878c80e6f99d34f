use Rattle.cg_join.specs.Spelling.{apart_spells, mapped_spells, sequence_spells, spells_as}
use Rattle.cg_file.specs.StatFileLaws.{padded_spells, pairs_unspaced, stat_apart, stat_is, stat_line, unspaced_spells}
use Rattle.cg_file.proofs.device_stats.StatLineText.new.Goals as goal

pub new-pairs-requires-clause-unspaced : goal.new-pairs-requires-clause-unspaced
new-pairs-requires-clause-unspaced c = unspaced_spells c.new.ensures.spells (pairs_unspaced c.args.kernel)

pub new-requires-4 : goal.new-requires-4
new-requires-4 c =
    let padded = padded_spells c.new.ensures.spells c.new-2.result c.new-pairs.ensures.spells in
    apart_spells c.new-3.ensures.spells (rw c.new-2.ensures at padded) (stat_apart c.args.kernel)

pub returns-clause-spells : goal.returns-clause-spells
returns-clause-spells c =
    let padded = padded_spells c.new.ensures.spells c.new-2.result c.new-pairs.ensures.spells in
    let whole = spells_as (mapped_spells stat_line (sequence_spells c.new-3.ensures.spells (rw c.new-2.ensures at padded) c.new-4.ensures.spells) c.new-5.ensures.spells) (stat_is c.args.kernel) in
    record { is = whole.is }
