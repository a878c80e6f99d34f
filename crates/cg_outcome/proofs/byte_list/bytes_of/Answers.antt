use Rattle.std.proofs.Common.{◌≤◌, length, ap, arith}
use Rattle.cg_outcome.specs.ByteNames.{bytes_below}
use Rattle.cg_outcome.proofs.ByteTold.{byte_left, byte_listed, bytes_few}
use Rattle.cg_outcome.proofs.byte_list.bytes_of.Goals as goal
use Rattle.cg_outcome.proofs.byte_list.bytes_of.Goals.{then-contains-within, else-contains-within}

pub loop-number-init : goal.loop-number-init
unfolding bytes_below
loop-number-init c = c.new-list.ensures

pub push-requires : goal.push-requires
push-requires c =
    let few : length (bytes_below c.args.set.now c.args.within c.loop-number.number) ≤ c.loop-number.number = bytes_few c.args.set.now c.args.within c.loop-number.number in
    omega (arith, ap length c.loop-number.invariant, few, c.loop-number-test.true)

pub loop-number-preserved : goal.loop-number-preserved
loop-number-preserved c =
    let set = c.args.set.now in
    let n = c.loop-number.number in
    elim c.if-contains-within.branch [
      | then-contains-within w ↦ byte_listed set c.args.within c.contains.result n c.loop-number.list c.if-contains-within.list c.contains.ensures c.loop-number.invariant w.if-contains-within.true (rw w.list-is w.push.ensures)
      | else-contains-within w ↦ byte_left set c.args.within c.contains.result n c.loop-number.list c.if-contains-within.list c.contains.ensures c.loop-number.invariant w.if-contains-within.false w.list-is
    ]
