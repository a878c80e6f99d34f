use Rattle.std.proofs.Common.{ℕ, ◌++◌}
use Rattle.cg_text.specs.Pushed.{run_of}
use Rattle.cg_text.specs.contracts.byte.ByteTextToken.TheImpl as byte
use Rattle.cg_text.specs.contracts.decimal.DecimalTextToken.TheImpl as decimal
use Rattle.cg_join.specs.DeviceLaws.{device_stops}
use Rattle.cg_join.specs.DeviceState.{numbers_of}
use Rattle.cg_join.specs.Join.{IsSequence}
use Rattle.cg_join.proofs.device.DeviceTextToken.push.Goals as goal

pub invariant_of-self : goal.invariant_of-self
invariant_of-self c =
    record { narrow = λ rest v h. c.args.self.now.narrow (run_of c.push.result c.args.bytes.now ++ rest) v ((c.push.ensures.follows rest v).0 h) }

pub returns-clause-follows : goal.returns-clause-follows
returns-clause-follows c = λ rest device. c.push.ensures.follows rest (numbers_of device)

pub returns-clause-stops : goal.returns-clause-stops
returns-clause-stops c =
    let new = c.push.new.self in
    device_stops (λ rest v. IsSequence decimal.ghosts.means (λ t more (w : Unit {0} × ℕ). IsSequence byte.ghosts.means decimal.ghosts.means t.in_second t.first t.second more w.0 w.1) new.in_second new.first new.second rest v.0 v.1)
    c.args.bytes.now c.push.result c.push.ensures.stops
