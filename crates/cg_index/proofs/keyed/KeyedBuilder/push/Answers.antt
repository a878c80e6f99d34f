use Rattle.std.proofs.Common.{map, ap, ◌∙◌}
use Rattle.cg_text.specs.Hash.{hash_of}
use Rattle.cg_index.specs.Cells.{item_of}
use Rattle.cg_index.specs.FoundLaws.{keyed_linked, keyed_grown}
use Rattle.cg_index.proofs.keyed.KeyedBuilder.push.Goals as goal

pub invariant_of-self : goal.invariant_of-self
invariant_of-self g c =
    let opening = rw (c.as_slice.ensures.value, c.hash.ensures ∙ ap hash_of c.key.ensures) at c.in-Some.ensures in
    keyed_linked g.T.HasKey.key_of c.self.inside.cells.items c.insert.new.cells.items c.args.item c.self.invariant opening c.insert.ensures.items c.insert.ensures.trie

pub invariant_of-self-in-None : goal.invariant_of-self-in-None
invariant_of-self-in-None g c =
    keyed_grown g.T.HasKey.key_of (map item_of c.self.inside.cells.items) c.args.item c.self.invariant.distinct (rw (← c.self.view_is) at c.requires.new) c.push.ensures.items c.push.ensures.tree
