use Rattle.std.proofs.Common.{refl}
use Rattle.cg_snap.specs.GoingOn.{told_by}
use Rattle.cg_snap.proofs.GoingOnEnds.{told_held}
use Rattle.cg_snap.proofs.going_on_decoder.Decoder+GoingOnRecords.held.Goals as goal

pub returns-in-None-clause-held : goal.returns-in-None-clause-held
returns-in-None-clause-held c p found h =
    let s = c.args.self.now.records in
    told_held s.block.profile s.limits s p (told_by found) h.state.told (λ q es x. c.held-block.ensures.held s.block.profile q es x) _ refl

pub returns-in-Some-clause-held : goal.returns-in-Some-clause-held
returns-in-Some-clause-held c p found h =
    let s = c.args.self.now.records in
    told_held s.block.profile s.limits s p (told_by found) h.state.told (λ q es x. c.held-block.ensures.held s.block.profile q es x) _ refl
