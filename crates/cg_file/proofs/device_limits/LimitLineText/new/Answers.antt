use Rattle.cg_join.specs.CutLaws.{label_spells}
use Rattle.cg_join.specs.Spelling.{apart_spells, mapped_spells, sequence_spells, spells_as}
use Rattle.cg_file.specs.DeviceLineLaws.{device_before_limits, limits_first, limits_second, limits_third, limits_is, limit_line}
use Rattle.cg_file.proofs.device_limits.LimitLineText.new.Goals as goal

pub new-two-requires : goal.new-two-requires
new-two-requires c = apart_spells (label_spells c.limit_in-2.ensures.spells c.labelled-riops.ensures.spells) (label_spells c.limit_in.ensures.spells c.labelled-wiops.ensures.spells) limits_third

pub new-three-requires : goal.new-three-requires
new-three-requires c =
    let wiops = label_spells c.limit_in.ensures.spells c.labelled-wiops.ensures.spells in
    let riops = label_spells c.limit_in-2.ensures.spells c.labelled-riops.ensures.spells in
    apart_spells (label_spells c.limit_in-3.ensures.spells c.labelled-wbps.ensures.spells) (sequence_spells riops wiops c.new-two.ensures.spells) limits_second

pub new-four-requires : goal.new-four-requires
new-four-requires c =
    let wiops = label_spells c.limit_in.ensures.spells c.labelled-wiops.ensures.spells in
    let riops = label_spells c.limit_in-2.ensures.spells c.labelled-riops.ensures.spells in
    let wbps = label_spells c.limit_in-3.ensures.spells c.labelled-wbps.ensures.spells in
    let two = sequence_spells riops wiops c.new-two.ensures.spells in
    apart_spells (label_spells c.limit_in-4.ensures.spells c.labelled-rbps.ensures.spells) (sequence_spells wbps two c.new-three.ensures.spells) limits_first

pub new-requires-2 : goal.new-requires-2
new-requires-2 c =
    let wiops = label_spells c.limit_in.ensures.spells c.labelled-wiops.ensures.spells in
    let riops = label_spells c.limit_in-2.ensures.spells c.labelled-riops.ensures.spells in
    let wbps = label_spells c.limit_in-3.ensures.spells c.labelled-wbps.ensures.spells in
    let rbps = label_spells c.limit_in-4.ensures.spells c.labelled-rbps.ensures.spells in
    let two = sequence_spells riops wiops c.new-two.ensures.spells in
    let three = sequence_spells wbps two c.new-three.ensures.spells in
    apart_spells c.new.ensures.spells (sequence_spells rbps three c.new-four.ensures.spells) (device_before_limits c.args.kernel)

pub returns-clause-spells : goal.returns-clause-spells
returns-clause-spells c =
    let wiops = label_spells c.limit_in.ensures.spells c.labelled-wiops.ensures.spells in
    let riops = label_spells c.limit_in-2.ensures.spells c.labelled-riops.ensures.spells in
    let wbps = label_spells c.limit_in-3.ensures.spells c.labelled-wbps.ensures.spells in
    let rbps = label_spells c.limit_in-4.ensures.spells c.labelled-rbps.ensures.spells in
    let two = sequence_spells riops wiops c.new-two.ensures.spells in
    let three = sequence_spells wbps two c.new-three.ensures.spells in
    let four = sequence_spells rbps three c.new-four.ensures.spells in
    let whole = spells_as (mapped_spells limit_line (sequence_spells c.new.ensures.spells four c.new-2.ensures.spells) c.new-3.ensures.spells) (limits_is c.args.kernel) in
    record { is = whole.is }
