use Rattle.std.proofs.Common.{refl}
use Rattle.cg_value.specs.TableLaws.{write_form_in, write_form_none, write_form_raw, write_form_ok}
use Rattle.cg_value.proofs.table.write_kind.Goals as goal

pub of-requires : goal.of-requires
of-requires c =
    let made = write_form_in c.args.profile _ c.args.name.now refl c.in-Some.forms c.in-Some-writes.form c.in-Some.ensures c.in-Some-writes.is in
    rw c.write_form.ensures (write_form_ok c.args.profile c.args.name.now _ made)

pub returns-in-Some-writes-clause-writable : goal.returns-in-Some-writes-clause-writable
returns-in-Some-writes-clause-writable c =
    rw (c.of.ensures, c.write_form.ensures) (write_form_in c.args.profile _ c.args.name.now refl c.in-Some.forms c.in-Some-writes.form c.in-Some.ensures c.in-Some-writes.is)

pub returns-in-None-writes-clause-unwritable : goal.returns-in-None-writes-clause-unwritable
returns-in-None-writes-clause-unwritable c = write_form_none c.args.profile _ c.args.name.now refl c.in-Some.forms c.in-Some.ensures c.in-None-writes.is

pub returns-in-None-clause-writable : goal.returns-in-None-clause-writable
returns-in-None-clause-writable c = rw c.of-in-None.ensures (write_form_raw c.args.profile _ c.args.name.now refl c.in-None.ensures)
