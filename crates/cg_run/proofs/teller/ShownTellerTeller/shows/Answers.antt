use Rattle.std.proofs.Common.{refl}
use Rattle.cg_run.proofs.teller.ShownTellerTeller.shows.Goals as goal

pub returns : goal.returns
returns c t told e = (refl, λ k. tt)
