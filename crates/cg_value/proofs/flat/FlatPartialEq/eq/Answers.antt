use Rattle.std.proofs.Common.{nat_eq, ◌&&◌, sym, ◌∙◌}
use Rattle.std.specs.Cmp.Derive.Mapped.{pointwise-map}
use Rattle.std.specs.Str.{bytes_eq}
use Rattle.cg_index.specs.Cells.{item_of}
use Rattle.cg_value.specs.declared.flat.FlatPair.{FlatPair}
use Rattle.cg_value.proofs.flat.FlatPartialEq.eq.Goals as goal

pub returns : goal.returns
returns c =
    let test = λ (p : FlatPair) (q : FlatPair). bytes_eq p.key q.key && nat_eq p.number q.number in
    rw (← c.pairs.ensures.pairs, ← c.pairs-2.ensures.pairs) (c.eq.ensures ∙ sym (pointwise-map item_of test c.pairs.result.now c.pairs-2.result.now))
