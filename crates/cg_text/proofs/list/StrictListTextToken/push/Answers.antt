use Rattle.std.proofs.Common.{◌++◌}
use Rattle.cg_text.specs.Pushed.{run_of}
use Rattle.cg_text.proofs.list.StrictListTextToken.push.Goals as goal

pub invariant_of-self : goal.invariant_of-self
invariant_of-self c =
    record { sound = λ rest all h. c.args.self.now.sound (run_of c.push.result c.args.bytes.now ++ rest) all ((c.push.ensures.follows rest all).0 h) }
