use Rattle.std.proofs.Common.{◌≡◌, true, take, sym, ◌∙◌, arith}
use Rattle.cg_text.specs.PushLaws.{room_after}
use Rattle.cg_join.specs.RunLaws.{pair_run}
use Rattle.cg_join.specs.SequenceLaws.{pair_begins_first}
use Rattle.cg_join.specs.SequencePushLaws.{first_stops, second_stops, sequence_pushed, sequence_stops, still_apart}
use Rattle.cg_join.proofs.sequence.SequenceToken.push.Goals as goal

pub returns-then-self-clause-stops : goal.returns-then-self-clause-stops
returns-then-self-clause-stops g c =
    let old = c.args.self.now in
    second_stops g.A.Token.means g.B.Token.means old.in_second old.first c.push.new.self c.args.bytes.now c.if-self.true ((g.A.Token.ends_is old.first).0 (old.ended c.if-self.true)) c.push.result c.push.ensures.stops

pub returns-in-All-clause-follows : goal.returns-in-All-clause-follows
returns-in-All-clause-follows g c =
    let old = c.args.self.now in
    let s = c.push-2.new.self in
    rw c.if-self.false (λ rest v. pair_run g.A.Token.means g.B.Token.means old.first s old.second c.args.bytes.now (old.apart c.if-self.false) (g.A.Token.completes s) c.in-All.ensures.follows rest v.0 v.1)

pub returns-in-Starved-clause-follows : goal.returns-in-Starved-clause-follows
returns-in-Starved-clause-follows g c =
    let old = c.args.self.now in
    let s = c.push-2.new.self in
    let run = take c.in-Starved.used c.args.bytes.now in
    rw c.if-self.false (λ rest v. pair_run g.A.Token.means g.B.Token.means old.first s old.second run (old.apart c.if-self.false) (g.A.Token.completes s) c.in-Starved.ensures.follows rest v.0 v.1)

pub returns-in-Starved-clause-stops : goal.returns-in-Starved-clause-stops
returns-in-Starved-clause-stops g c =
    let old = c.args.self.now in
    rw c.if-self.false (pair_begins_first g.A.Token.means g.B.Token.means c.push-2.new.self old.second _ (g.B.Token.completes old.second) c.in-Starved.ensures.stops)

pub returns-then-not-can_end-clause-follows : goal.returns-then-not-can_end-clause-follows
returns-then-not-can_end-clause-follows g c =
    let old = c.args.self.now in
    let s = c.push-2.new.self in
    let run = take c.in-Refused.used c.args.bytes.now in
    rw c.if-self.false (λ rest v. pair_run g.A.Token.means g.B.Token.means old.first s old.second run (old.apart c.if-self.false) (g.A.Token.completes s) c.in-Refused.ensures.follows rest v.0 v.1)

pub returns-then-not-can_end-clause-stops : goal.returns-then-not-can_end-clause-stops
returns-then-not-can_end-clause-stops g c =
    let old = c.args.self.now in
    let s = c.push-2.new.self in
    rw c.if-self.false (first_stops g.A.Token.means g.B.Token.means s old.second _ c.in-Refused.ensures.stops
    (λ h. (let e : g.A.Token.ends s ≡ true = (g.A.Token.ends_is s).1 h in let f = c.if-not-can_end.true in let k = c.can_end.ensures in cc)))

pub after-requires : goal.after-requires
after-requires g c =
    room_after c.args.bytes.now c.split_at.result.1.now c.in-Refused.used c.split_at.ensures.back (omega (arith, c.in-Refused.ensures.within)) (omega arith) c.push-pushed.result c.push-pushed.ensures.within

pub invariant_of-self-2 : goal.invariant_of-self-2
invariant_of-self-2 g c =
    let old = c.args.self.now in
    let s = c.push-2.new.self in
    let t = c.push-pushed.new.self in
    let bytes = c.args.bytes.now in
    record {
      apart = λ e. still_apart g.A.Token.means g.B.Token.means old.first s old.second t bytes c.split_at.result.1.now c.in-Refused.used c.split_at.ensures.back c.in-Refused.ensures.within (old.apart c.if-self.false) (g.A.Token.completes s) c.in-Refused.ensures.follows c.in-Refused.ensures.stops c.push-pushed.result c.push-pushed.ensures.follows (sym c.took_some-self.ensures ∙ e);
      ended = λ e. sym c.can_end.ensures ∙ c.if-not-can_end.false;
    }

pub returns-clause-follows : goal.returns-clause-follows
returns-clause-follows g c =
    let old = c.args.self.now in
    let s = c.push-2.new.self in
    let t = c.push-pushed.new.self in
    let bytes = c.args.bytes.now in
    rw (c.after.ensures, c.took_some-self.ensures, c.if-self.false) (λ rest v. sequence_pushed g.A.Token.means g.B.Token.means old.first s old.second t bytes c.split_at.result.1.now c.in-Refused.used c.split_at.ensures.back c.in-Refused.ensures.within (old.apart c.if-self.false) (g.A.Token.completes s) c.in-Refused.ensures.follows c.in-Refused.ensures.stops c.push-pushed.result c.push-pushed.ensures.within c.push-pushed.ensures.follows rest v.0 v.1)

pub returns-clause-stops : goal.returns-clause-stops
returns-clause-stops g c =
    let old = c.args.self.now in
    let s = c.push-2.new.self in
    let t = c.push-pushed.new.self in
    let bytes = c.args.bytes.now in
    let ends = (g.A.Token.ends_is s).0 (sym c.can_end.ensures ∙ c.if-not-can_end.false) in
    rw c.after.ensures (sequence_stops g.A.Token.means g.B.Token.means old.first s old.second t bytes c.split_at.result.1.now c.in-Refused.used c.split_at.ensures.back c.in-Refused.ensures.within (old.apart c.if-self.false) (g.A.Token.completes s) c.in-Refused.ensures.follows c.in-Refused.ensures.stops ends c.took_some-self.result c.push-pushed.result c.took_some-self.ensures c.push-pushed.ensures.stops)
