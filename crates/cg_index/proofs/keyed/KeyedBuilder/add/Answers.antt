use Rattle.std.proofs.Common.{ap, ◌∙◌}
use Rattle.cg_text.specs.Hash.{hash_of}
use Rattle.cg_index.specs.FoundLaws.{keyed_linked, opened_among}
use Rattle.cg_index.proofs.keyed.KeyedBuilder.add.Goals as goal

pub returns-then-is_err-clause-repeated : goal.returns-then-is_err-clause-repeated
returns-then-is_err-clause-repeated g c =
    let opening = rw (c.as_slice.ensures.value, c.hash.ensures ∙ ap hash_of c.key.ensures) at c.in-Some.ensures in
    rw (← c.self.view_is) (opened_among (g.T.HasKey.key_of c.args.item) c.self.invariant opening)

pub invariant_of-self-2 : goal.invariant_of-self-2
invariant_of-self-2 g c =
    let opening = rw (c.as_slice.ensures.value, c.hash.ensures ∙ ap hash_of c.key.ensures) at c.in-Some.ensures in
    keyed_linked g.T.HasKey.key_of c.self.inside.cells.items c.insert.new.cells.items c.args.item c.self.invariant opening (rw (← c.make_room.ensures.items) c.insert.ensures.items) c.insert.ensures.trie

pub returns-clause-repeated : goal.returns-clause-repeated
returns-clause-repeated g c =
    let opening = rw (c.as_slice.ensures.value, c.hash.ensures ∙ ap hash_of c.key.ensures) at c.in-Some.ensures in
    rw (← c.self.view_is) (opened_among (g.T.HasKey.key_of c.args.item) c.self.invariant opening)
