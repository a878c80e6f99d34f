use Rattle.std.proofs.Common.{◌<◌, get_or, length, Err, arith}
use Rattle.std.proofs.lemmas.List.{get_or-take, take-take}
use Rattle.cg_text.specs.Texts.{TextOf}
use Rattle.cg_line.specs.Rests.{IsAfter}
use Rattle.cg_line.specs.RestsLaws.{after_front, after_none, begins_next, read_byte}
use Rattle.cg_line.specs.RunsLaws.{run_ended}
use Rattle.cg_line.specs.declared.push.PushFault.TheVariants.{Refused, OutOfMemory}
use Rattle.cg_line.proofs.push.push_run_to.Goals as goal

pub returns-in-All-clause-pushed : goal.returns-in-All-clause-pushed
returns-in-All-clause-pushed g c =
    let follows = rw c.split_at.ensures.front at c.in-All.ensures.follows in
    let within = c.line_front-count.ensures.within in
    record {
      reads = after_front g.T.Token.means g.T.Token.size c.args.text.now c.push.new.self c.args.bytes.now c.line_front-count.result within follows (g.T.Token.completes c.push.new.self) (omega (arith, c.in-All.ensures.size, c.split_at.ensures.front_len));
      stops = c.line_front-count.ensures.ends;
    }

pub returns-in-Refused-clause-pushed : goal.returns-in-Refused-clause-pushed
returns-in-Refused-clause-pushed g c =
    let means = g.T.Token.means in
    let size = g.T.Token.size in
    let old = c.args.text.now in
    let new = c.push.new.self in
    let bytes = c.args.bytes.now in
    let n = c.line_front-count.result in
    let used = c.in-Refused.used in
    let few : used < n = omega (arith, c.in-Refused.ensures.within, c.split_at.ensures.front_len) in
    let within : used < length bytes = omega (arith, few, c.line_front-count.ensures.within) in
    let follows = rw (c.split_at.ensures.front, take-take used n bytes (omega (arith, few))) at c.in-Refused.ensures.follows in
    let none = rw (c.split_at.ensures.front, get_or-take n bytes used 0 few) at c.in-Refused.ensures.stops in
    let after = after_front means size old new bytes used (omega (arith, within)) follows (g.T.Token.completes new) c.in-Refused.ensures.size in
    run_ended (IsAfter means size old new) (TextOf (means old)) bytes used Refused within (c.line_front-count.ensures.plain used few)
    (read_byte after (means new) (size new) (get_or bytes used 0) (Err Refused) (after_none means size new (g.T.Token.completes new), λ next. none next.rest next.whole.0 next.whole.1))

pub returns-in-Starved-clause-pushed : goal.returns-in-Starved-clause-pushed
returns-in-Starved-clause-pushed g c =
    let means = g.T.Token.means in
    let size = g.T.Token.size in
    let old = c.args.text.now in
    let new = c.push.new.self in
    let bytes = c.args.bytes.now in
    let n = c.line_front-count.result in
    let used = c.in-Starved.used in
    let few : used < n = omega (arith, c.in-Starved.ensures.within, c.split_at.ensures.front_len) in
    let within : used < length bytes = omega (arith, few, c.line_front-count.ensures.within) in
    let follows = rw (c.split_at.ensures.front, take-take used n bytes (omega (arith, few))) at c.in-Starved.ensures.follows in
    let begins = rw (c.split_at.ensures.front, get_or-take n bytes used 0 few) at c.in-Starved.ensures.stops in
    let after = after_front means size old new bytes used (omega (arith, within)) follows (g.T.Token.completes new) c.in-Starved.ensures.size in
    run_ended (IsAfter means size old new) (TextOf (means old)) bytes used OutOfMemory within (c.line_front-count.ensures.plain used few)
    (read_byte after (means new) (size new) (get_or bytes used 0) (Err OutOfMemory) (after_none means size new (g.T.Token.completes new), (begins_next means size new (get_or bytes used 0)).0 begins))
