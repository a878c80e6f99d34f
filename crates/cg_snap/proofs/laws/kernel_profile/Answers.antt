use Rattle.cg_value.specs.declared.profile.Profile.TheVariants.{Two, Kernel}
use Rattle.cg_snap.specs.ProfileLaws.{by_the_way, two_profiles}
use Rattle.cg_snap.proofs.laws.kernel_profile.Goals as goal

pub returns-clause-upgraded : goal.returns-clause-upgraded
returns-clause-upgraded c = two_profiles Two Kernel tt

pub returns-clause-at_once : goal.returns-clause-at_once
returns-clause-at_once c = by_the_way
