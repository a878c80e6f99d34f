use Rattle.std.proofs.Common.{refl, ap, ◌∙◌, is_some}
use Rattle.cg_value.specs.TableLaws.{row_found}
use Rattle.cg_value.proofs.table.has_row.Goals as goal

pub returns : goal.returns
returns c = c.is_some.ensures ∙ ap is_some c.find.ensures ∙ row_found c.args.profile _ c.args.name.now refl
