use Rattle.cg_snap.specs.Decoder.{profile_of}
use Rattle.cg_snap.specs.ProfileLaws.{answers_up, only_numa, two_closed, two_profiles}
use Rattle.cg_snap.proofs.laws.two_profiles.Goals as goal

pub returns-clause-texts : goal.returns-clause-texts
returns-clause-texts c = two_profiles

pub returns-clause-closed : goal.returns-clause-closed
returns-clause-closed c = two_closed

pub returns-clause-pulled : goal.returns-clause-pulled
returns-clause-pulled c = λ d e p es fs before h g. two_closed (profile_of d) (profile_of e) before p es fs h.closed g.closed

pub returns-clause-answered : goal.returns-clause-answered
returns-clause-answered c = answers_up

pub returns-clause-numa : goal.returns-clause-numa
returns-clause-numa c = only_numa
