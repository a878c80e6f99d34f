use Rattle.std.proofs.Common.{Some, sym, ◌∙◌}
use Rattle.cg_value.specs.Entry.{ReadsAt}
use Rattle.cg_line.specs.MadeLaws.{one_form, reads_once}
use Rattle.cg_line.proofs.upgrading.raw_lines.Goals as goal

pub returns-in-Err : goal.returns-in-Err
returns-in-Err c kind lines read =
    reads_once c.args.to c.args.entry.now.path kind (record { name = c.name.result.now; name_is = c.name.ensures; form_is = c.in-Err.ensures.unreadable }) read.reads

pub returns-in-Raw-form : goal.returns-in-Raw-form
returns-in-Raw-form c kind lines read =
    let here : ReadsAt c.args.to c.args.entry.now.path (Some c.in-Ok.kind) = record { name = c.name.result.now; name_is = c.name.ensures; form_is = c.in-Ok.ensures.readable } in
    read.typed (sym (one_form c.args.to c.args.entry.now.path c.in-Ok.kind kind here read.reads) ∙ sym c.form.ensures.form ∙ c.in-Raw-form.is)
