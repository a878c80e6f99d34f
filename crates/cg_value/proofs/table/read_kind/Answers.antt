use Rattle.std.proofs.Common.{refl}
use Rattle.cg_value.specs.TableLaws.{read_form_in, read_form_none, read_form_raw, read_form_ok}
use Rattle.cg_value.proofs.table.read_kind.Goals as goal

pub of-requires : goal.of-requires
of-requires c =
    let made = read_form_in c.args.profile _ c.args.name.now refl c.in-Some.forms c.in-Some-reads.form c.in-Some.ensures c.in-Some-reads.is in
    rw c.read_form.ensures (read_form_ok c.args.profile c.args.name.now _ made)

pub returns-in-Some-reads-clause-readable : goal.returns-in-Some-reads-clause-readable
returns-in-Some-reads-clause-readable c =
    rw (c.of.ensures, c.read_form.ensures) (read_form_in c.args.profile _ c.args.name.now refl c.in-Some.forms c.in-Some-reads.form c.in-Some.ensures c.in-Some-reads.is)

pub returns-in-None-reads-clause-unreadable : goal.returns-in-None-reads-clause-unreadable
returns-in-None-reads-clause-unreadable c = read_form_none c.args.profile _ c.args.name.now refl c.in-Some.forms c.in-Some.ensures c.in-None-reads.is

pub returns-in-None-clause-readable : goal.returns-in-None-clause-readable
returns-in-None-clause-readable c = rw c.of-in-None.ensures (read_form_raw c.args.profile _ c.args.name.now refl c.in-None.ensures)
