use Rattle.std.proofs.Common.{Some, ap, sym, codes, ◌++◌, ◌∙◌}
use Rattle.std.proofs.lemmas.Slice.Eq.{bytes_eq-Decides}
use Rattle.cg_value.specs.TableLaws.{found_once}
use Rattle.cg_value.proofs.table.find_sized.Goals as goal

pub returns-then-is_sized : goal.returns-then-is_sized
returns-then-is_sized c =
    let name = codes "hugetlb.*" ++ c.args.rest.now in
    let same = (bytes_eq-Decides _ name).0 (sym c.is_sized.ensures ∙ c.if-is_sized.true) in
    ap (λ f. Some f) c.forms.ensures ∙ sym (found_once c.args.rows.now name c.guess-place.result _ c.requires c.if-place-rows.true same)
