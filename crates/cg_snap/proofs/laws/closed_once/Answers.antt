use Rattle.cg_snap.specs.ClosedLaws.{begun_once, closed_once, one_closing}
use Rattle.cg_snap.proofs.laws.closed_once.Goals as goal

pub returns-clause-entries : goal.returns-clause-entries
returns-clause-entries c = closed_once

pub returns-clause-parts : goal.returns-clause-parts
returns-clause-parts c = one_closing

pub returns-clause-begun : goal.returns-clause-begun
returns-clause-begun c = begun_once
