use Rattle.std.proofs.Common.{◌++◌, ◌∷◌}
use Rattle.cg_text.specs.GivenRanges.{Gives, GivesOnly}
use Rattle.cg_text.specs.LooseLaws.{loose_completes}
use Rattle.cg_text.specs.LooseState.{IsLooseRest}
use Rattle.cg_text.specs.Numbers.{AreRanges}
use Rattle.cg_text.specs.Pushed.{run_of}
use Rattle.cg_text.specs.PushLaws.{stops_as}
use Rattle.cg_text.proofs.loose.LooseListTextToken.push.Goals as goal

pub invariant_of-self : goal.invariant_of-self
invariant_of-self c =
    record { sound = λ rest all h. c.args.self.now.sound (run_of c.push.result c.args.bytes.now ++ rest) all ((c.push.ensures.follows rest all).0 h) }

pub returns-clause-follows : goal.returns-clause-follows
returns-clause-follows c =
    let f = c.push.ensures.follows in
    λ rest set. (λ h. (h.0, (f rest h.0).0 h.1, h.2), λ h. (h.0, (f rest h.0).1 h.1, h.2))

pub returns-clause-stops : goal.returns-clause-stops
returns-clause-stops c =
    let new = c.push.new.self in
    let sound : GivesOnly AreRanges new = λ rest all h. c.args.self.now.sound (run_of c.push.result c.args.bytes.now ++ rest) all ((c.push.ensures.follows rest all).0 h) in
    stops_as (Gives new) (IsLooseRest (Gives new)) c.args.bytes.now
    (λ b. (λ h. loose_completes (λ rest. Gives new (b ∷ rest)) (λ rest. sound (b ∷ rest)) h, λ h. (h.0, h.2.0, h.2.1))) c.push.result c.push.ensures.stops
