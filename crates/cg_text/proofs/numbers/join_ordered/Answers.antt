use Rattle.std.proofs.Common.{◌≡◌, ◌≤◌, ◌<◌, ◌+◌, length, sym, ◌∙◌, arith}
use Rattle.cg_text.specs.NumbersLaws.{is_true, not_apart}
use Rattle.cg_text.specs.RangesLaws.{some_of}
use Rattle.cg_text.proofs.Joined.{joined_all, joined_all_set, joined_all_has, next_apart, next_more, next_none}
use Rattle.cg_text.proofs.numbers.join_ordered.Goals as goal
use Rattle.cg_text.proofs.numbers.join_ordered.Goals.{then-is_apart, else-is_apart}

pub loop-at-preserved : goal.loop-at-preserved
loop-at-preserved c =
    let l = c.loop-at in
    let r = c.index-in-loop-at.result.now in
    let all = joined_all c.args.ranges.now.items in
    let within : l.at < length l.ranges.items = omega (arith, l.invariant.len, l.ranges.ok.0) in
    elim c.if-is_apart.branch [
      | then-is_apart w ↦ rw (w.ranges-is, w.low-is, w.high-is, w.done-is) (record {
        within = omega (arith, l.invariant.within);
        len = l.invariant.len;
        whole = next_apart all l.ranges.items l.at l.done l.low l.high r r l.invariant.whole l.invariant.within within (sym c.index-in-loop-at.ensures)
            (c.is_apart.ensures.0 (is_true c.is_apart.result w.if-is_apart.true));
      })
      | else-is_apart w ↦ rw (w.ranges-is, w.low-is, w.high-is, w.done-is, w.max-high.ensures) (record {
        within = omega (arith, l.invariant.within);
        len = l.invariant.len;
        whole = next_more all l.ranges.items l.at l.done l.low l.high r r l.invariant.whole within (sym c.index-in-loop-at.ensures)
            (not_apart (l.high + 1) (r.0) c.is_apart.result w.if-is_apart.false c.is_apart.ensures);
      })
    ]

pub returns-clause-set : goal.returns-clause-set
returns-clause-set c =
    let l = c.loop-at in
    let rs = c.args.ranges.now.items in
    let some = some_of _ c.is_empty.result c.is_empty.ensures c.if-is_empty.false in
    let within : l.done < length l.ranges.items = omega (arith, some, l.invariant.len, l.invariant.within, l.ranges.ok.0) in
    let past : length l.ranges.items ≤ l.at = omega (arith, l.invariant.len, l.ranges.ok.0) in
    let e : c.truncate.new.self.items ≡ joined_all rs =
    c.truncate.ensures.items ∙ next_none (joined_all rs) l.ranges.items l.at l.done l.low l.high (0, 0) (0, 0) l.invariant.whole within past in
    rw e (joined_all_set rs c.requires.ranges c.requires.ordered)

pub returns-clause-members : goal.returns-clause-members
returns-clause-members c =
    let l = c.loop-at in
    let rs = c.args.ranges.now.items in
    let some = some_of _ c.is_empty.result c.is_empty.ensures c.if-is_empty.false in
    let within : l.done < length l.ranges.items = omega (arith, some, l.invariant.len, l.invariant.within, l.ranges.ok.0) in
    let past : length l.ranges.items ≤ l.at = omega (arith, l.invariant.len, l.ranges.ok.0) in
    let e : c.truncate.new.self.items ≡ joined_all rs =
    c.truncate.ensures.items ∙ next_none (joined_all rs) l.ranges.items l.at l.done l.low l.high (0, 0) (0, 0) l.invariant.whole within past in
    rw e (joined_all_has rs c.requires.ranges c.requires.ordered)
