use Rattle.std.proofs.Common.{map, sym, ◌∙◌}
use Rattle.cg_index.specs.Cells.{item_of}
use Rattle.cg_index.specs.Keyed.{is_among}
use Rattle.cg_index.specs.KeyedLaws.{not_among}
use Rattle.cg_index.specs.FoundLaws.{keyed_grown}
use Rattle.cg_index.proofs.keyed.KeyedBuilder.build_and_add.Goals as goal

pub push-requires-clause-new : goal.push-requires-clause-new
push-requires-clause-new g c =
    let is = c.bytes.ensures.bytes ∙ c.key.ensures in
    let keys = map g.T.HasKey.key_of c.args.self.now.items in
    rw (c.make_room.ensures.items) (rw (← c.self.view_is) at (rw is at (not_among c.bytes.result.now keys (sym {b = is_among c.bytes.result.now keys} c.if-has.ensures))))

pub invariant_of-self-2 : goal.invariant_of-self-2
invariant_of-self-2 g c =
    let key = g.T.HasKey.key_of in
    let is = c.bytes.ensures.bytes ∙ c.key.ensures in
    let keys = map key c.args.self.now.items in
    let lacks = rw (← c.self.view_is) at (rw is at (not_among c.bytes.result.now keys (sym {b = is_among c.bytes.result.now keys} c.if-has.ensures))) in
    keyed_grown key (map item_of c.self.inside.cells.items) c.args.item c.self.invariant.distinct lacks (rw (← c.make_room.ensures.items) c.push.ensures.items) c.push.ensures.tree
