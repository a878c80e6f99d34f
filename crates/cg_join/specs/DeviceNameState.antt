-- The device of what a choice spells.
use Rattle.std.specs.Prelude.{Option, Some, None}
use Rattle.cg_text.specs.declared.values.Device.{Device}
use Rattle.cg_join.specs.declared.choice.Either.{Either}
use Rattle.cg_join.specs.declared.choice.Either.TheVariants.{Left, Right}

abbrev pub device_named : Either Device (Unit {0}) → Option Device
device_named (Left device) = Some device
device_named (Right _) = None
