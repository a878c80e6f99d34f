use Rattle.std.proofs.Common.{◌++◌, take, drop, append_assoc}
use Rattle.std.proofs.Math.Seq.{take-add}
use Rattle.cg_join.specs.PartRunLaws.{list_run, stops_run}
use Rattle.cg_join.proofs.repeat.RepeatSteps.take_run.Goals as goal

pub invariant_of-self : goal.invariant_of-self
invariant_of-self g c =
    let mid = c.take_items-whole.new.self in
    let rest = drop c.take_items-whole.result c.args.bytes.now in
    record {
      stops = stops_run mid.separator (g.T.Token.means mid.current) (g.T.Token.means c.push_count.new.token) (take c.push_count.result rest) (rw c.split_at.ensures.back at c.push_count.ensures.follows) mid.stops;
      starts = mid.starts;
      filled = mid.filled;
      room = λ _. c.in-Ok.ensures.room;
      small = mid.small;
    }

pub returns-in-Ok-clause-follows : goal.returns-in-Ok-clause-follows
returns-in-Ok-clause-follows g c rest all =
    let mid = c.take_items-whole.new.self in
    let new = c.push_count.new.token in
    let bytes = c.args.bytes.now in
    let whole = c.take_items-whole.result in
    let run = take c.push_count.result (drop whole bytes) in
    let front = c.take_items-whole.ensures.follows (run ++ rest) all in
    let back = list_run mid.separator (g.S.MakeToken.texts mid.start) mid.items.items (g.T.Token.means mid.current) (g.T.Token.means new) run
    mid.stops (g.T.Token.completes new) (rw c.split_at.ensures.back at c.push_count.ensures.follows) rest all in
    rw (c.make_room.ensures.items, take-add whole c.push_count.result bytes, append_assoc (take whole bytes) run rest) (λ k. front.0 (back.0 k), λ k. back.1 (front.1 k))

pub returns-in-Err-clause-follows : goal.returns-in-Err-clause-follows
returns-in-Err-clause-follows g c = rw c.make_room.ensures.items c.take_items-whole.ensures.follows
