use Rattle.std.proofs.Common.{◌≡◌, ◌<◌, ◌++◌, ◌∙◌, length, take, arith}
use Rattle.cg_join.specs.LinesLaws.{lacks_same, lines_same}
use Rattle.cg_join.specs.LinesState.{at_hand}
use Rattle.cg_join.specs.LinesStateLaws.{hand_lacks, hand_same, through}
use Rattle.cg_join.specs.ScanLaws.{lacks_run, lines_scanned, some_taken}
use Rattle.cg_join.proofs.lines.Lines.take_part.Goals as goal

pub invariant_of-self-clause-lacks : goal.invariant_of-self-clause-lacks
invariant_of-self-clause-lacks g c =
    let old = c.args.self.now in
    let P = g.T.Token.means old.current in
    let R = g.S.MakeToken.texts old.start in
    let renewed = g.T.Token.means c.renew.new.current in
    lacks_run old.end renewed (g.T.Token.means c.push_count-count.new.token) (take c.push_count-count.result c.args.bytes.now) c.push_count-count.ensures.follows
    (lacks_same old.end (at_hand old.begun P R) renewed c.renew.ensures.is (hand_lacks P R old.end old.begun old.lacks old.starts))

pub returns-then-count-gt0-clause-follows : goal.returns-then-count-gt0-clause-follows
returns-then-count-gt0-clause-follows g c =
    let old = c.args.self.now in
    let P = g.T.Token.means old.current in
    let R = g.S.MakeToken.texts old.start in
    let some : 0 < length (take c.push_count-count.result c.args.bytes.now) = some_taken c.push_count-count.result c.args.bytes.now (omega (arith, c.if-count-gt0.true)) c.push_count-count.ensures.within in
    let new = c.push_count-count.new.token in
    let run = take c.push_count-count.result c.args.bytes.now in
    lines_scanned old.end (at_hand old.begun P R) (g.T.Token.means new) R run some (hand_lacks P R old.end old.begun old.lacks old.starts) (g.T.Token.completes new)
    (λ rest v. through (c.push_count-count.ensures.follows rest v) (c.renew.ensures.is (run ++ rest) v)) old.begun old.items.items

pub returns-else-count-gt0-clause-follows : goal.returns-else-count-gt0-clause-follows
returns-else-count-gt0-clause-follows g c =
    let old = c.args.self.now in
    let P = g.T.Token.means old.current in
    let R = g.S.MakeToken.texts old.start in
    let new = g.T.Token.means c.push_count-count.new.token in
    let none : c.push_count-count.result ≡ 0 = omega (arith, c.if-count-gt0.false) in
    let same = rw none at c.push_count-count.ensures.follows in
    rw none (lines_same old.end (at_hand old.begun P R) (at_hand old.begun new R) R (hand_same P R old.begun new (λ rest v. through (same rest v) (c.renew.ensures.is rest v))) old.begun old.items.items)

pub invariant_of-self-else-count-gt0 : goal.invariant_of-self-else-count-gt0
invariant_of-self-else-count-gt0 g c =
    let old = c.args.self.now in
    let P = g.T.Token.means old.current in
    let R = g.S.MakeToken.texts old.start in
    let renewed = g.T.Token.means c.renew.new.current in
    let none : c.push_count-count.result ≡ 0 = omega (arith, c.if-count-gt0.false) in
    record {
      lacks = lacks_run old.end renewed (g.T.Token.means c.push_count-count.new.token) (take c.push_count-count.result c.args.bytes.now) c.push_count-count.ensures.follows
          (lacks_same old.end (at_hand old.begun P R) renewed c.renew.ensures.is (hand_lacks P R old.end old.begun old.lacks old.starts));
      starts = old.starts;
      small = old.small;
      fresh = λ h. c.push_count-count.ensures.same_size none ∙ c.renew.ensures.size ∙ old.fresh h;
    }
