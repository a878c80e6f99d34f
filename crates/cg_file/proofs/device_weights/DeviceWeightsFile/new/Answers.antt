use Rattle.std.proofs.Common.{[]}
use Rattle.cg_join.specs.ApartLaws.{lacking_apart}
use Rattle.cg_join.specs.BeginsLaws.{fixed_begins}
use Rattle.cg_join.specs.CutLaws.{label_spells}
use Rattle.cg_join.specs.Spelling.{apart_spells, mapped_spells, sequence_spells, spells_as}
use Rattle.cg_file.specs.DeviceLineLaws.{weight_lacks}
use Rattle.cg_file.specs.WeightFileLaws.{WeightLines, default_lacks, ended_apart, weights_are, weights_value}
use Rattle.cg_file.proofs.device_weights.DeviceWeightsFile.new.Goals as goal

pub new-line-requires : goal.new-line-requires
new-line-requires c =
    let first = label_spells (label_spells c.decimal_in.ensures.spells c.spaced-default.ensures.spells) c.labelled-first.ensures.spells in
    apart_spells first c.new.ensures.spells (lacking_apart (default_lacks c.args.most) (fixed_begins 10 []))

pub new-lines-requires : goal.new-lines-requires
new-lines-requires c = weight_lacks c.args.most c.args.kernel

pub new-requires-2 : goal.new-requires-2
new-requires-2 c =
    let first = label_spells (label_spells c.decimal_in.ensures.spells c.spaced-default.ensures.spells) c.labelled-first.ensures.spells in
    apart_spells (sequence_spells first c.new.ensures.spells c.new-line.ensures.spells) c.new-lines.ensures.spells (ended_apart (WeightLines c.args.most c.args.kernel) (default_lacks c.args.most))

pub returns-clause-spells : goal.returns-clause-spells
returns-clause-spells c =
    let first = label_spells (label_spells c.decimal_in.ensures.spells c.spaced-default.ensures.spells) c.labelled-first.ensures.spells in
    let line = sequence_spells first c.new.ensures.spells c.new-line.ensures.spells in
    let whole = spells_as (mapped_spells weights_value (sequence_spells line c.new-lines.ensures.spells c.new-2.ensures.spells) c.new-3.ensures.spells) (weights_are c.args.most c.args.kernel) in
    record { is = whole.is }
