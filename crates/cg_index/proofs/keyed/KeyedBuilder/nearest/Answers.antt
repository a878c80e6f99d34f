use Rattle.std.proofs.Common.{Some, map, ap, arith}
use Rattle.std.proofs.lemmas.List.{length-map}
use Rattle.cg_index.specs.Cells.{item_of}
use Rattle.cg_index.specs.TrieLaws.{met_has, met_only, opening_new}
use Rattle.cg_index.proofs.keyed.KeyedBuilder.nearest.Goals as goal

pub returns-in-Met-clause-within : goal.returns-in-Met-clause-within
returns-in-Met-clause-within g c =
    let key = g.T.HasKey.key_of in
    let ends = rw (c.as_slice-in-None.ensures.value) at c.walk.ensures in
    let has = met_has ends c.in-Met.is in
    rw (← c.self.view_is) (omega (arith, has.0, length-map (map item_of c.self.inside.cells.items) key))

pub returns-in-Met-clause-only : goal.returns-in-Met-clause-only
returns-in-Met-clause-only g c = rw (← c.self.view_is) (λ j h e.
    let trie = rw (c.in-None.is) at c.self.invariant.found in
    let ends = rw (c.as_slice-in-None.ensures.value, c.hash_of.ensures, c.in-Met.is) at c.walk.ensures in
    ap Some (met_only c.args.key.now c.in-Met.place j trie ends h e))

pub returns-in-Open-clause-only : goal.returns-in-Open-clause-only
returns-in-Open-clause-only g c = rw (← c.self.view_is) (λ j h e.
    let trie = rw (c.in-None.is) at c.self.invariant.found in
    let ends = rw (c.as_slice-in-None.ensures.value, c.hash_of.ensures, c.in-Open.is) at c.walk.ensures in
    absurd (opening_new c.args.key.now trie ends j h e))
