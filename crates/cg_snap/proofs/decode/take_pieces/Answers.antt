use Rattle.std.proofs.Common.{◌≡◌, ℕ, List, Bor, [], ◌+◌, take, ap, arith}
use Rattle.std.proofs.lemmas.List.{take_all}
use Rattle.cg_snap.specs.Pieces.{joined}
use Rattle.cg_snap.proofs.Piecewise.{ended_in, joined_more, taken_of}
use Rattle.cg_snap.proofs.decode.take_pieces.Goals as goal

pub loop-piece-init : goal.loop-piece-init
loop-piece-init g c = λ form limits h. h

pub returns-in-Some : goal.returns-in-Some
returns-in-Some g c form limits h =
    let pieces = c.args.pieces.now in
    let i = c.loop-piece.piece-index in
    ended_in g.R.Records.stream g.R.Records.form_of form limits pieces i (record { ref_ptr = (0, 0); now = [] }) c.in-Some.fault c.loop-piece-test.true
    (c.in-Some.ensures form limits (joined (take i pieces)) (c.loop-piece.invariant form limits h))

pub loop-piece-preserved : goal.loop-piece-preserved
loop-piece-preserved g c = λ form limits h.
    let pieces = c.args.pieces.now in
    let i = c.loop-piece.piece-index in
    taken_of g.R.Records.stream g.R.Records.form_of form limits c.take_piece.new.decoder _ (joined (take (i + 1) pieces)) c.take_piece.new.parts.items (joined_more pieces i (record { ref_ptr = (0, 0); now = [] }) c.loop-piece-test.true)
    (c.in_default.ensures form limits (joined (take i pieces)) (c.loop-piece.invariant form limits h))

pub returns : goal.returns
returns g c form limits h =
    let pieces = c.args.pieces.now in
    let i = c.loop-piece.piece-index in
    let all : take i pieces ≡ pieces = take_all i pieces (omega (arith, c.loop-piece-test.false)) in
    taken_of g.R.Records.stream g.R.Records.form_of form limits c.loop-piece.decoder (joined (take i pieces)) (joined pieces) c.loop-piece.parts.items (ap (λ (q : List (Bor (List ℕ))). joined q) all) (c.loop-piece.invariant form limits h)
