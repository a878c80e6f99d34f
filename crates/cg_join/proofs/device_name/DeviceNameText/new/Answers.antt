use Rattle.std.proofs.Common.{arith}
use Rattle.cg_join.specs.DeviceNameLaws.{IsGone, device_begins, device_name_is}
use Rattle.cg_join.specs.DeviceNameState.{device_named}
use Rattle.cg_join.specs.ForkLaws.{fork_spells, none_begins}
use Rattle.cg_join.specs.Spelling.{mapped_spells, spells_as}
use Rattle.cg_join.proofs.device_name.DeviceNameText.new.Goals as goal

pub new-requires-2-clause-none : goal.new-requires-2-clause-none
new-requires-2-clause-none c = none_begins 40 c.new.ensures.spells device_begins (λ digit. omega (arith, digit.0))

pub returns-clause-spells : goal.returns-clause-spells
returns-clause-spells c =
    let any = fork_spells IsGone c.args.unknown c.new.ensures.spells c.new-2.ensures.spells in
    let parts = spells_as (mapped_spells device_named any c.new-3.ensures.spells) (device_name_is c.args.unknown) in
    record { is = parts.is }
