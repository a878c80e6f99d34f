use Rattle.cg_join.specs.DeviceLaws.{colon_apart, major_apart, device_is, narrow_new}
use Rattle.cg_join.specs.DeviceState.{numbers_of}
use Rattle.cg_join.specs.Spelling.{apart_spells, sequence_spells}
use Rattle.cg_join.proofs.device.DeviceText.new.Goals as goal

pub new-requires-4 : goal.new-requires-4
new-requires-4 c = apart_spells c.new-3.ensures.spells c.in-Some-new.ensures.1 colon_apart

pub new-requires-5 : goal.new-requires-5
new-requires-5 c = apart_spells c.in-Some.ensures.1 (sequence_spells c.new-3.ensures.spells c.in-Some-new.ensures.1 c.new-4.ensures.spells) major_apart

pub invariant_of-result : goal.invariant_of-result
invariant_of-result c =
    let parts = sequence_spells c.in-Some.ensures.1 (sequence_spells c.new-3.ensures.spells c.in-Some-new.ensures.1 c.new-4.ensures.spells) c.new-5.ensures.spells in
    record { narrow = λ rest v h. narrow_new rest v ((parts.is rest v).0 h) }

pub returns-clause-spells : goal.returns-clause-spells
returns-clause-spells c =
    let parts = sequence_spells c.in-Some.ensures.1 (sequence_spells c.new-3.ensures.spells c.in-Some-new.ensures.1 c.new-4.ensures.spells) c.new-5.ensures.spells in
    record { is = λ rest v. (λ h. (device_is rest v).0 ((parts.is rest (numbers_of v)).0 h), λ h. (parts.is rest (numbers_of v)).1 ((device_is rest v).1 h)) }
