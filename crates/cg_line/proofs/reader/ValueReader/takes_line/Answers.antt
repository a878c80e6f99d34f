use Rattle.std.proofs.Common.{sym, subst}
use Rattle.cg_line.specs.ReadsLaws.{state_of, takes_none}
use Rattle.cg_line.specs.OpenReads.{OpenReads}
use Rattle.cg_line.specs.declared.open_reader.OpenReader.{OpenReader}
use Rattle.cg_line.proofs.reader.ValueReader.takes_line.Goals as goal

pub returns-in-New : goal.returns-in-New
returns-in-New c kind taken h = let new = state_of c.args.self.now _ kind taken c.in-New.is h in rw (new.1, ← new.0) c.begins_line.ensures

pub returns-in-Whole : goal.returns-in-Whole
returns-in-Whole c kind taken h =
    let whole = state_of c.args.self.now _ kind taken c.in-Whole.is h in
    (λ e. absurd (cc), λ takes. absurd (takes_none kind c.in-Whole.field-0.value taken whole takes))

pub returns-in-Open : goal.returns-in-Open
returns-in-Open c kind taken h = c.takes_line.ensures kind taken (subst (λ (o : OpenReader). OpenReads o kind taken) (sym c.deref.ensures) (state_of c.args.self.now _ kind taken c.in-Open.is h))
