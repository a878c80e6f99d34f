use Rattle.std.proofs.Common.{◌≡◌, ◌++◌, take}
use Rattle.cg_json.specs.Compact.{led, member_text}
use Rattle.cg_json.proofs.compact.append_led_members.Given as goal

abbrev pub invariant-loop-member : goal.invariant-loop-member
invariant-loop-member g l = l.out.items ≡ l.initial.out.items ++ led (member_text g.T.Member.key_of g.T.Json.tree_of) (take l.member-index l.members)
