use Rattle.std.proofs.Common.{◌≡◌, take}
use Rattle.std.specs.List.{fold}
use Rattle.serde_json.specs.Data.{no_members, put}
use Rattle.serde_json.specs.View.{members_view}
use Rattle.cg_json.proofs.json.object.Given as goal

abbrev pub invariant-loop-member : goal.invariant-loop-member
invariant-loop-member g l = members_view l.map.entries ≡ fold (λ ms x. put (g.T.Member.key_of x) (g.T.Json.tree_of x) ms) no_members (take l.member-index l.members)
