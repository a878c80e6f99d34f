use Rattle.std.proofs.Common.{◌≡◌, Bool, map, ap, arith, Bor}
use Rattle.std.proofs.lemmas.Cmp.{nat_list_cmp_total}
use Rattle.std.proofs.lemmas.Grind.{common_steps}
use Rattle.std.proofs.lemmas.List.Sorted.{ranks_by, answers_always}
use Rattle.std.specs.Cmp.Lexicographic.{slice_cmp}
use Rattle.std.specs.Ordering.{is_lt, nat_cmp}
use Rattle.std.proofs.Common.{rules}
use Rattle.serde_json.specs.Data.{object}
use Rattle.cg_json.specs.PutLaws.{put_sorted}
use Rattle.cg_json.proofs.compact.sorted.Goals as goal

pub returns : goal.returns
returns g c =
    let all : map (λ m. m.now) c.loop-member.order.items ≡ c.args.members.now = grind (arith, common_steps) in
    let before : Bor g.row.T.Denot → Bor g.row.T.Denot → Bool = λ a b. is_lt (slice_cmp nat_cmp (g.T.Member.key_of a.now) (g.T.Member.key_of b.now)) in
    let sorted = c.sort_unstable_by.ensures.sorted before (ranks_by nat_list_cmp_total (λ (m : Bor g.row.T.Denot). g.T.Member.key_of m.now)) (answers_always _ _ _ (λ f a r h w. search rules)) in
    ap object (put_sorted g.T.Member.key_of g.T.Json.tree_of (λ m. m.now) c.args.members.now c.loop-member.order.items c.sort_unstable_by.new.self.items
    c.requires all c.sort_unstable_by.ensures.permutation sorted)
