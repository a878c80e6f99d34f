use Rattle.std.proofs.Common.{[], refl}
use Rattle.cg_run.proofs.going_on.GoingOnReader.new.Goals as goal

pub returns : goal.returns
returns g c = record {
  found = [];
  taken = record { stands = c.new.ensures.stands; stop = c.new.ensures.stop; form_is = c.new.ensures.form; limits_is = c.new.ensures.limits };
  tellings = [];
  told_are = refl;
  explained = tt;
  parts_are = refl;
  counts = refl;
  keeps = c.requires;
  lines = c.lines_of.ensures.behind;
  explain_is = c.lines_of.ensures.same;
}
