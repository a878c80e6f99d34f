use Rattle.std.proofs.Common.{refl, sym, ◌∙◌}
use Rattle.cg_snap.specs.GoingOnState.{IsPassingOver, IsReading}
use Rattle.cg_snap.proofs.GoingOnMoves.{settle_again, settle_other, settle_same, some_inj}
use Rattle.cg_snap.proofs.States.{at_false, at_true}
use Rattle.cg_snap.proofs.going_on_records.GoingOnRecords.settle.Goals as goal

pub returns-in-None-clause-settled : goal.returns-in-None-clause-settled
returns-in-None-clause-settled c profile limits p told a b l f h =
    let s = c.args.self.now in
    record {
      profile_is = a;
      limits_is = l;
      meter_is = b;
      state = at_false (IsPassingOver s profile limits p told) (IsReading s profile limits p told) s.is_passing f (settle_same profile limits s p told h c.in-None.ensures);
    }

pub returns-in-Some-true-clause-settled : goal.returns-in-Some-true-clause-settled
returns-in-Some-true-clause-settled c profile limits p told a b l f h =
    let s = c.args.self.now in
    let t = c.begin_block.new.self in
    let e = c.begin_block.ensures in
    let w = rw c.in-Some-true.field-0-test at c.in-Some-true.ensures in
    record {
      profile_is = e.profile ∙ a;
      limits_is = e.limits ∙ l;
      meter_is = rw l at e.meter;
      state = at_true (IsPassingOver t profile limits p told) (IsReading t profile limits p told) t.is_passing e.passing (settle_again profile limits s p told h t w.0 w.1 w.2 w.3 w.4 e.left_out (e.fresh profile a));
    }

pub returns-in-Some-false-clause-settled : goal.returns-in-Some-false-clause-settled
returns-in-Some-false-clause-settled c profile limits p told a b l f h =
    let s = c.args.self.now in
    let w = rw c.in-Some-false.field-0-test at c.in-Some-false.ensures in
    record {
      profile_is = a;
      limits_is = l;
      meter_is = b;
      state = at_false _ _ s.is_passing f (settle_other profile limits s p told h _ w.1 w.3 (λ z. w.4 (some_inj w.0 w.1.path.items (sym w.2 ∙ (h.kept ∙ z)))) refl refl refl);
    }
