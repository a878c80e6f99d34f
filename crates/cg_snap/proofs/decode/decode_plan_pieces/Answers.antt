use Rattle.cg_snap.specs.Pieces.{joined}
use Rattle.cg_snap.specs.Streams.{plan_stream}
use Rattle.cg_snap.proofs.Piecewise.{begun_with, plan_end, plan_end_err}
use Rattle.cg_snap.proofs.decode.decode_plan_pieces.Goals as goal

pub returns-in-Some : goal.returns-in-Some
returns-in-Some c =
    let new = c.new-decoder.ensures in
    let first = begun_with plan_stream (λ s. s.profile) c.args.profile c.args.limits c.new-decoder.result c.new-items.result.items c.new-items.ensures.items new.stands new.stop new.profile new.limits in
    c.in-Some.ensures c.args.profile c.args.limits first

pub returns-in-Ok : goal.returns-in-Ok
returns-in-Ok c =
    let bytes = joined c.args.pieces.now in
    let items = c.take_pieces.new.parts.items in
    let new = c.new-decoder.ensures in
    let first = begun_with plan_stream (λ s. s.profile) c.args.profile c.args.limits c.new-decoder.result c.new-items.result.items c.new-items.ensures.items new.stands new.stop new.profile new.limits in
    let all = c.in_default.ensures c.args.profile c.args.limits first in
    plan_end c.args.profile c.args.limits c.take_pieces.new.decoder bytes items all (c.in-Ok.ensures.finished bytes items all.stop all.stands)

pub returns-in-Err : goal.returns-in-Err
returns-in-Err c =
    let bytes = joined c.args.pieces.now in
    let items = c.take_pieces.new.parts.items in
    let new = c.new-decoder.ensures in
    let first = begun_with plan_stream (λ s. s.profile) c.args.profile c.args.limits c.new-decoder.result c.new-items.result.items c.new-items.ensures.items new.stands new.stop new.profile new.limits in
    let all = c.in_default.ensures c.args.profile c.args.limits first in
    plan_end_err c.args.profile c.args.limits c.take_pieces.new.decoder bytes items all c.in-Err.stop (c.in-Err.ensures.finished bytes items all.stop all.stands)
