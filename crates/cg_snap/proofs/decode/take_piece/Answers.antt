use Rattle.std.proofs.Common.{◌≡◌, ℕ, ◌+◌, ◌++◌, ◌∷◌, [], List, append-nil, take, length, sym, ap, arith}
use Rattle.std.proofs.lemmas.List.{take_all}
use Rattle.cg_snap.proofs.Piecewise.{left, none_left, piece_is, taken_of}
use Rattle.cg_snap.proofs.decode.take_piece.Goals as goal

pub loop-used-init : goal.loop-used-init
loop-used-init g c = record {
  taken = λ form limits p h. taken_of g.R.Records.stream g.R.Records.form_of form limits c.args.decoder.now p (p ++ []) c.args.parts.now.items (sym (append-nil p)) h;
  within = omega arith;
}

pub loop-used-smaller-in-NeedMore : goal.loop-used-smaller-in-NeedMore
loop-used-smaller-in-NeedMore g c =
    let all : c.next-pulled.result.used ≡ length c.split_at.result.1.now = rw c.in-NeedMore.is at c.next-pulled.ensures.progress in
    omega (arith, all, c.loop-used-test.true, left c.args.piece.now c.split_at.result.1.now c.loop-used.used c.split_at.ensures.back)

pub loop-used-preserved-in-NeedMore : goal.loop-used-preserved-in-NeedMore
loop-used-preserved-in-NeedMore g c = record {
  taken = λ form limits p h.
      let next = c.next-pulled in
      let did = rw c.in-NeedMore.is at (piece_is g.R.Records.stream g.R.Records.form_of form limits c.loop-used.decoder next.new.self p c.args.piece.now c.split_at.result.1.now c.loop-used.parts.items c.loop-used.used next.result.used
      (c.loop-used.invariant.taken form limits p h) c.split_at.ensures.back next.ensures.form next.ensures.limits next.result.what next.ensures.pulled) in
      did.1;
  within = omega (arith, c.next-pulled.ensures.used, c.loop-used-test.true, left c.args.piece.now c.split_at.result.1.now c.loop-used.used c.split_at.ensures.back);
}

pub loop-used-preserved : goal.loop-used-preserved
loop-used-preserved g c = record {
  taken = λ form limits p h.
      let next = c.next-pulled in
      let did = rw c.in-Given.is at (piece_is g.R.Records.stream g.R.Records.form_of form limits c.loop-used.decoder next.new.self p c.args.piece.now c.split_at.result.1.now c.loop-used.parts.items c.loop-used.used next.result.used
      (c.loop-used.invariant.taken form limits p h) c.split_at.ensures.back next.ensures.form next.ensures.limits next.result.what next.ensures.pulled) in
      rw (c.in-Ok.ensures.items, c.in-Given.part-is) did.1;
  within = omega (arith, c.next-pulled.ensures.used, c.loop-used-test.true, left c.args.piece.now c.split_at.result.1.now c.loop-used.used c.split_at.ensures.back);
}

pub returns-in-Err : goal.returns-in-Err
returns-in-Err g c form limits p h =
    let next = c.next-pulled in
    let did = rw c.in-Given.is at (piece_is g.R.Records.stream g.R.Records.form_of form limits c.loop-used.decoder next.new.self p c.args.piece.now c.split_at.result.1.now c.loop-used.parts.items c.loop-used.used next.result.used
    (c.loop-used.invariant.taken form limits p h) c.split_at.ensures.back next.ensures.form next.ensures.limits next.result.what next.ensures.pulled) in
    none_left g.R.Records.stream g.R.Records.form_of form limits next.new.self p c.args.piece.now (c.loop-used.used + next.result.used) (c.loop-used.parts.items ++ c.in-Given.part ∷ []) (omega (arith, did.0)) (omega (arith, c.loop-used-test.true)) did.1

pub returns-in-Stopped : goal.returns-in-Stopped
returns-in-Stopped g c form limits p h =
    let next = c.next-pulled in
    rw c.in-Stopped.is at (piece_is g.R.Records.stream g.R.Records.form_of form limits c.loop-used.decoder next.new.self p c.args.piece.now c.split_at.result.1.now c.loop-used.parts.items c.loop-used.used next.result.used
    (c.loop-used.invariant.taken form limits p h) c.split_at.ensures.back next.ensures.form next.ensures.limits next.result.what next.ensures.pulled)

pub returns-in-OutOfMemory : goal.returns-in-OutOfMemory
returns-in-OutOfMemory g c form limits p h =
    let next = c.next-pulled in
    rw c.in-OutOfMemory.is at (piece_is g.R.Records.stream g.R.Records.form_of form limits c.loop-used.decoder next.new.self p c.args.piece.now c.split_at.result.1.now c.loop-used.parts.items c.loop-used.used next.result.used
    (c.loop-used.invariant.taken form limits p h) c.split_at.ensures.back next.ensures.form next.ensures.limits next.result.what next.ensures.pulled)

pub returns : goal.returns
returns g c form limits p h =
    let piece = c.args.piece.now in
    let all : take c.loop-used.used piece ≡ piece = take_all c.loop-used.used piece (omega (arith, c.loop-used-test.false)) in
    taken_of g.R.Records.stream g.R.Records.form_of form limits c.loop-used.decoder (p ++ take c.loop-used.used piece) (p ++ piece) c.loop-used.parts.items (ap (λ (t : List ℕ). p ++ t) all) (c.loop-used.invariant.taken form limits p h)
