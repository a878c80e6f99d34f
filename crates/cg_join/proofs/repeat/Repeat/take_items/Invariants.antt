use Rattle.std.proofs.Common.{◌≡◌, ◌≤◌, ◌+◌, ◌-◌, length, take}
use Rattle.cg_text.specs.Scan.{FollowsRun}
use Rattle.cg_join.specs.Repeat.{IsListAfter, items_size}
use Rattle.cg_join.proofs.repeat.Repeat.take_items.Given as goal

abbrev pub invariant-loop-used : goal.invariant-loop-used
invariant-loop-used g l = record {
  within : l.used ≤ length l.bytes;
  follows : FollowsRun (λ s rest all. IsListAfter s.items.items (g.T.Token.means s.current) (g.S.MakeToken.texts s.start) s.separator rest all) l.fn.self (take l.used l.bytes) l.self;
  size : items_size g.T.Token.value_size l.self.items.items + g.T.Token.size l.self.current ≤ items_size g.T.Token.value_size l.fn.self.items.items + g.T.Token.size l.fn.self.current + l.used;
  same : l.used ≡ 0 → items_size g.T.Token.value_size l.self.items.items + g.T.Token.size l.self.current ≡ items_size g.T.Token.value_size l.fn.self.items.items + g.T.Token.size l.fn.self.current;
}

abbrev pub decreases-loop-used : goal.decreases-loop-used
decreases-loop-used g l = length l.bytes - l.used
