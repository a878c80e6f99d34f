use Rattle.std.proofs.Common.{◌≡◌, ◌∙◌, refl, sym, ap}
use Rattle.cg_line.specs.ReaderHeldLaws.{reads_few, reads_most}
use Rattle.cg_line.specs.Reads.{held_by}
use Rattle.cg_line.specs.ReadsLaws.{held_is}
use Rattle.cg_line.specs.OpenReads.{open_held}
use Rattle.cg_line.proofs.reader.ValueReader.held.Goals as goal

pub returns-in-New-clause-exact : goal.returns-in-New-clause-exact
returns-in-New-clause-exact c = rw (held_is c.args.self.now _ c.in-New.is) refl

pub returns-in-New-clause-few : goal.returns-in-New-clause-few
returns-in-New-clause-few c = reads_few c.args.self.now

pub returns-in-New-clause-most : goal.returns-in-New-clause-most
returns-in-New-clause-most c = reads_most c.args.self.now

pub returns-in-Whole-clause-exact : goal.returns-in-Whole-clause-exact
returns-in-Whole-clause-exact c = let none : held_by c.args.self.now ≡ 0 = held_is c.args.self.now _ c.in-Whole.is ∙ c.in-Whole.field-0.light in rw none refl

pub returns-in-Whole-clause-few : goal.returns-in-Whole-clause-few
returns-in-Whole-clause-few c = reads_few c.args.self.now

pub returns-in-Whole-clause-most : goal.returns-in-Whole-clause-most
returns-in-Whole-clause-most c = reads_most c.args.self.now

pub returns-in-Open-clause-exact : goal.returns-in-Open-clause-exact
unfolding open_held
returns-in-Open-clause-exact c =
    let same : held_by c.args.self.now ≡ open_held c.deref.result.now = held_is c.args.self.now _ c.in-Open.is ∙ ap open_held (sym c.deref.ensures) in
    rw same c.held.ensures

pub returns-in-Open-clause-few : goal.returns-in-Open-clause-few
returns-in-Open-clause-few c = reads_few c.args.self.now

pub returns-in-Open-clause-most : goal.returns-in-Open-clause-most
returns-in-Open-clause-most c = reads_most c.args.self.now
