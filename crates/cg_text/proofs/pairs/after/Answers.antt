use Rattle.cg_text.specs.LimitPairsLaws.{limit_next, limit_refuses}
use Rattle.cg_text.proofs.pairs.after.Goals as goal

pub returns-in-InKey : goal.returns-in-InKey
returns-in-InKey c = rw c.in-InKey.is c.key_after.ensures

pub returns-then-byte-eq32 : goal.returns-then-byte-eq32
returns-then-byte-eq32 c = rw (c.in-InLimit.is, c.if-byte-eq32.true) c.close.ensures

pub returns-in-Some : goal.returns-in-Some
returns-in-Some c =
    let live = rw c.in-InLimit.is at c.requires in
    rw c.in-InLimit.is (limit_next c.args.given c.in-InLimit.key c.in-InLimit.limit c.in-Some.next c.args.byte live c.if-byte-eq32.false c.in-Some.ensures)

pub returns-in-None : goal.returns-in-None
returns-in-None c = rw c.in-InLimit.is (limit_refuses c.args.given c.in-InLimit.key c.in-InLimit.limit c.args.byte c.if-byte-eq32.false c.in-None.ensures)
