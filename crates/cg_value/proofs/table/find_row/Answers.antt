use Rattle.std.proofs.Common.{Some, ap, sym, ◌∙◌}
use Rattle.std.proofs.lemmas.Slice.Eq.{bytes_eq-Decides}
use Rattle.cg_value.specs.TableLaws.{found_once}
use Rattle.cg_value.proofs.table.find_row.Goals as goal

pub returns-then-eq : goal.returns-then-eq
returns-then-eq c =
    let same = (bytes_eq-Decides _ c.args.name.now).0 (sym c.eq.ensures ∙ c.if-eq.true) in
    ap (λ f. Some f) c.forms.ensures ∙ sym (found_once c.args.rows.now c.args.name.now c.guess-place.result _ c.requires c.if-place-rows.true same)
