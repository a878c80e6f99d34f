use Rattle.cg_index.specs.PositionLaws.{first_digit_below, first_digit_differs, first_digit_same}
use Rattle.cg_index.proofs.position.first_digit.Goals as goal

pub returns-clause-digit : goal.returns-clause-digit
returns-clause-digit c = first_digit_below c.args.a c.args.b c.ranges.a.fits c.ranges.b.fits c.requires

pub returns-clause-differs : goal.returns-clause-differs
returns-clause-differs c = first_digit_differs c.args.a c.args.b c.ranges.a.fits c.ranges.b.fits c.requires

pub returns-clause-below : goal.returns-clause-below
returns-clause-below c = first_digit_same c.args.a c.args.b c.ranges.a.fits c.ranges.b.fits c.requires
