use Rattle.std.proofs.Common.{◌≡◌, map, take}
use Rattle.cg_json.proofs.compact.sorted.Given as goal

abbrev pub invariant-loop-member : goal.invariant-loop-member
invariant-loop-member g l = map (λ m. m.now) l.order.items ≡ take l.member-index l.members
