use Rattle.std.proofs.Common.{◌≤◌, ◌∙◌, [], inl, refl, sym, true≢false, length, take, length-take, arith}
use Rattle.cg_text.specs.Texts.{TextOf}
use Rattle.cg_snap.specs.Stop.{place_of}
use Rattle.cg_outcome.specs.Spot.{more_words}
use Rattle.cg_source.proofs.Explaining.{ended, line_told, starved, stopped}
use Rattle.cg_source.proofs.explained.explain_text.Goals as goal

pub returns-in-None-2 : goal.returns-in-None-2
returns-in-None-2 g c form h =
    let bytes = c.args.bytes.now in
    let name = c.args.name.now in
    let L = TextOf (g.T.TextReader.text form) in
    let reader = c.take_piece.new.reader in
    let goes = c.in-None.ensures.took form [] refl (h, omega arith) in
    let few : length bytes ≤ 18446744073709551615 = omega (arith, c.requires, c.ranges.end.fits) in
    let none = λ (t : L bytes). true≢false (sym ((c.can_finish.ensures form bytes goes.0).1 t) ∙ c.if-can_finish.false) in
    let tells = rw c.take_piece.ensures.same at (c.text_spot.ensures form bytes goes.0 few (c.in-None.ensures.behind [] refl c.new.ensures)) in
    line_told L name bytes (more_words c.text_spot.result) c.line_of.result
    (ended L (g.T.TextReader.took reader form) (g.met.T.TextReader.viable reader form) name bytes c.args.end (more_words c.text_spot.result) goes.0 none tells) c.line_of.ensures

pub returns-in-Some-Stopped : goal.returns-in-Some-Stopped
returns-in-Some-Stopped g c form h =
    let bytes = c.args.bytes.now in
    let name = c.args.name.now in
    let L = TextOf (g.T.TextReader.text form) in
    let reader = c.take_piece.new.reader in
    let stop = c.in-Some-Stopped.stop in
    let is = c.in-Some-Stopped.field-0-is in
    let at = rw is at (c.in-Some-Stopped.ensures.took form [] refl (h, omega arith)) in
    let behind = rw is at (c.in-Some-Stopped.ensures.behind [] refl c.new.ensures) in
    let few : length (take (place_of stop) bytes) ≤ 18446744073709551615 = omega (arith, length-take (place_of stop) bytes, c.requires, c.ranges.end.fits) in
    let more = more_words c.text_spot-in-Some-Stopped.result in
    let tells = rw c.take_piece.ensures.same at (c.text_spot-in-Some-Stopped.ensures form (take (place_of stop) bytes) at.took few behind) in
    line_told L name bytes more c.line_of-in-Some-Stopped.result
    (stopped L (g.T.TextReader.took reader form) (g.met.T.TextReader.viable reader form) name bytes _ stop c.in-Some-Stopped.byte more (omega (arith, c.requires)) at tells) c.line_of-in-Some-Stopped.ensures

pub returns-in-Some-OutOfMemory : goal.returns-in-Some-OutOfMemory
returns-in-Some-OutOfMemory g c form h =
    let want = rw c.in-Some-OutOfMemory.field-0-is at (c.in-Some-OutOfMemory.ensures.took form [] refl (h, omega arith)) in
    inl (starved (TextOf (g.T.TextReader.text form)) _ c.args.bytes.now want)

pub returns-in-Some-End : goal.returns-in-Some-End
returns-in-Some-End g c form h = absurd (rw c.in-Some-End.field-0-is at (c.in-Some-End.ensures.took form [] refl (h, omega arith)))
