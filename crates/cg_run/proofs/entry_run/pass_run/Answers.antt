use Rattle.std.proofs.Common.{◌≡◌, ◌+◌, ◌++◌, ◌∷◌, ◌∙◌, [], ℕ, List, length, take, drop, map, inr, sym, ap, subst, append-nil, arith}
use Rattle.std.proofs.Math.Seq.{take-add}
use Rattle.std.proofs.lemmas.List.{length-take-le}
use Rattle.cg_value.specs.Entry.{EntryData}
use Rattle.cg_snap.specs.GoingOnEntry.{found_entry}
use Rattle.cg_snap.specs.declared.going_on.Found.{Found}
use Rattle.cg_run.specs.Decoded.{AreFollowed}
use Rattle.cg_run.specs.GoneOnReader.{HasTakenOn}
use Rattle.cg_run.specs.ShownBytes.{IsCut}
use Rattle.cg_run.proofs.EntryRuns.{no_run, run_bytes}
use Rattle.cg_run.proofs.Streams.{text_on}
use Rattle.cg_run.proofs.entry_run.pass_run.Goals as goal

pub returns-then-begin-eq0-clause-passed : goal.returns-then-begin-eq0-clause-passed
returns-then-begin-eq0-clause-passed c form p found taken begins =
    let piece = c.args.piece.now in
    let begin = c.lines_end-begin.result in
    record {
      entries = [];
      taken = subst (λ (fs : List Found). HasTakenOn c.args.decoder.now form (p ++ take c.args.at piece) fs) (sym (append-nil found)) taken;
      run = no_run begin piece;
    }

pub returns-then-passed-eq0-clause-passed : goal.returns-then-passed-eq0-clause-passed
returns-then-passed-eq0-clause-passed c form p found taken begins =
    let piece = c.args.piece.now in
    let front = c.split_at.result.0.now in
    let rest = c.split_at.result.1.now in
    let at = c.args.at in
    let begin = c.lines_end-begin.result in
    let now = c.pass_entries-passed.new.decoder in
    let b = c.pass_entries-passed.ensures.passed form (p ++ take at piece) found begins.next begins.good taken begins.begun in
    let none : b.entries ≡ [] = b.none (omega (arith, c.if-passed-eq0.true)) in
    let all = text_on p piece rest at c.pass_entries-passed.result.used c.split_at.ensures.back in
    record {
      entries = [];
      taken = subst (λ (q : List ℕ). HasTakenOn now form q (found ++ [])) all (subst (λ (es : List EntryData). HasTakenOn now form ((p ++ take at piece) ++ take c.pass_entries-passed.result.used rest) (found ++ map found_entry es)) none b.taken);
      run = no_run begin piece;
    }

pub returns-clause-passed : goal.returns-clause-passed
returns-clause-passed c form p found taken begins =
    let piece = c.args.piece.now in
    let front = c.split_at.result.0.now in
    let rest = c.split_at.result.1.now in
    let at = c.args.at in
    let begin = c.lines_end-begin.result in
    let closed = c.pass_entries-passed.result.closed in
    let now = c.pass_entries-passed.new.decoder in
    let b = c.pass_entries-passed.ensures.passed form (p ++ take at piece) found begins.next begins.good taken begins.begun in
    let text : take (at + closed) piece ≡ take at piece ++ take closed rest = take-add at closed piece ∙ ap (λ (t : List ℕ). take at piece ++ take closed t) (sym c.split_at.ensures.back) in
    let cut = subst (λ (t : List ℕ). IsCut t (take begin t) (drop begin t)) c.split_at.ensures.front c.lines_end-begin.ensures.cut in
    let size : length (take at piece) ≡ at = length-take-le at piece c.requires in
    let bytes : drop begin (take (at + closed) piece) ≡ (begins.next ++ 0 ∷ []) ++ take closed rest =
    run_bytes (form.0) c.args.decoder.now.records p (take at piece) begin begins cut (omega (arith, c.if-begin-eq0.false)) (omega (arith, c.lines_end-begin.ensures.within, ap length c.split_at.ensures.front, size)) (take (at + closed) piece) (take closed rest) text in
    record {
      entries = b.entries;
      taken = subst (λ (q : List ℕ). HasTakenOn now form q (found ++ map found_entry b.entries)) (text_on p piece rest at c.pass_entries-passed.result.used c.split_at.ensures.back) b.taken;
      run = inr (b.some (omega (arith, c.if-passed-eq0.false)), subst (λ (t : List ℕ). AreFollowed t [] b.entries) (sym bytes) b.followed);
    }
