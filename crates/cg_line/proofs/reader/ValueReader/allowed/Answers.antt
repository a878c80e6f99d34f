use Rattle.std.proofs.Common.{sym, subst}
use Rattle.cg_text.specs.Bytes.{HasByte}
use Rattle.cg_line.specs.ReadsLaws.{state_of}
use Rattle.cg_line.specs.RestsLaws.{next_is}
use Rattle.cg_line.specs.OpenReads.{OpenReads}
use Rattle.cg_line.specs.OpenReadsLaws.{took_read}
use Rattle.cg_line.specs.declared.open_reader.OpenReader.{OpenReader}
use Rattle.cg_line.proofs.reader.ValueReader.allowed.Goals as goal

pub returns-in-New : goal.returns-in-New
returns-in-New c kind taken h byte = let new = state_of c.args.self.now _ kind taken c.in-New.is h in rw (new.1, ← new.0) (c.first_allowed.ensures byte)

pub returns-in-Whole : goal.returns-in-Whole
returns-in-Whole c kind taken h byte =
    let whole = state_of c.args.self.now _ kind taken c.in-Whole.is h in
    (λ has. absurd (c.new.ensures.empty byte has), λ next. absurd (whole.last byte next))

pub returns-in-Open : goal.returns-in-Open
returns-in-Open c kind taken h =
    let took = subst (λ (o : OpenReader). OpenReads o kind taken) (sym c.deref.ensures) (state_of c.args.self.now _ kind taken c.in-Open.is h) in
    next_is (took_read c.deref.result.now kind taken took) (HasByte c.allowed_by.result) c.allowed_by.ensures
