use Rattle.cg_snap.specs.Pieces.{joined}
use Rattle.cg_snap.specs.Streams.{snap_stream}
use Rattle.cg_snap.proofs.Piecewise.{begun_with}
use Rattle.cg_snap.proofs.decode.decode_snapshot_pieces.Goals as goal

pub returns-in-Some : goal.returns-in-Some
returns-in-Some c =
    let new = c.new-decoder.ensures in
    let first = begun_with snap_stream (λ s. s.profile) c.args.profile c.args.limits c.new-decoder.result c.new-entries.result.items c.new-entries.ensures.items new.stands new.stop new.profile new.limits in
    c.in-Some.ensures c.args.profile c.args.limits first

pub returns-in-Some-end_entries : goal.returns-in-Some-end_entries
returns-in-Some-end_entries c =
    let new = c.new-decoder.ensures in
    let first = begun_with snap_stream (λ s. s.profile) c.args.profile c.args.limits c.new-decoder.result c.new-entries.result.items c.new-entries.ensures.items new.stands new.stop new.profile new.limits in
    c.in-Some-end_entries.ensures c.args.profile c.args.limits (joined c.args.pieces.now) (c.in_default.ensures c.args.profile c.args.limits first)

pub returns-in-None : goal.returns-in-None
returns-in-None c =
    let new = c.new-decoder.ensures in
    let first = begun_with snap_stream (λ s. s.profile) c.args.profile c.args.limits c.new-decoder.result c.new-entries.result.items c.new-entries.ensures.items new.stands new.stop new.profile new.limits in
    c.in-None.ensures c.args.profile c.args.limits (joined c.args.pieces.now) (c.in_default.ensures c.args.profile c.args.limits first)
