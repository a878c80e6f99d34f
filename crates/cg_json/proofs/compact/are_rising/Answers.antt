use Rattle.std.proofs.Common.{◌≡◌, ◌-◌, Less, arith, sym, ◌∙◌}
use Rattle.std.proofs.lemmas.List.Elements.{pair_read}
use Rattle.std.proofs.lemmas.List.Sorted.{all_adjacent_more}
use Rattle.std.specs.Cmp.Lexicographic.{slice_cmp}
use Rattle.std.specs.Ordering.{nat_cmp}
use Rattle.cg_json.specs.PutLaws.{less_is}
use Rattle.cg_json.proofs.compact.are_rising.Goals as goal

pub loop-i-preserved : goal.loop-i-preserved
loop-i-preserved g c =
    let members = c.args.members.now in
    let i = c.loop-i.i in
    let less : slice_cmp nat_cmp (g.T.Member.key_of c.index-members-i.result) (g.T.Member.key_of c.index-members-i-in-loop-i.result) ≡ Less =
    rw (← c.key.ensures, ← c.key-in-loop-i.ensures, ← c.bytes-before.ensures.bytes, ← c.bytes-key.ensures.bytes, ← c.cmp.ensures)
    (less_is _ (sym c.is_lt.ensures ∙ c.if-not-is_lt.false)) in
    all_adjacent_more members (λ x y. slice_cmp nat_cmp (g.T.Member.key_of x) (g.T.Member.key_of y) ≡ Less) i (omega arith) c.loop-i.invariant
    (pair_read members (λ x y. slice_cmp nat_cmp (g.T.Member.key_of x) (g.T.Member.key_of y) ≡ Less) (i - 1) i
    c.index-members-i.result c.index-members-i-in-loop-i.result (omega arith) (omega arith) c.index-members-i.is c.index-members-i-in-loop-i.is less)
