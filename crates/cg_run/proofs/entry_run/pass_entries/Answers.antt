use Rattle.std.proofs.Common.{◌≡◌, ◌+◌, ◌++◌, ◌∷◌, [], ℕ, List, length, take, drop, map, sym, ap, subst, arith, length-drop}
use Rattle.cg_snap.specs.GoingOnDecoder.{StandsOn, going_form_of}
use Rattle.cg_snap.specs.GoingOnEntry.{found_entry}
use Rattle.cg_snap.proofs.GoingOnPulls.{took_none}
use Rattle.cg_run.specs.EntryRun.{HavePassed}
use Rattle.cg_run.specs.GoneOnReader.{HasTakenOn}
use Rattle.cg_run.proofs.EntryRuns.{passed_entry, passed_none, takes_on}
use Rattle.cg_run.proofs.Streams.{text_on}
use Rattle.cg_run.proofs.entry_run.pass_entries.Goals as goal

pub entries-init : goal.entries-init
entries-init c = record {
  within = omega arith;
  closed = omega arith;
  passed = λ form p found next good taken begun. (passed_none c.args.decoder.now form p found next c.args.piece.now good taken, begun);
}

pub entries-preserved : goal.entries-preserved
entries-preserved c =
    let piece = c.args.piece.now in
    let rest = c.split_at.result.1.now in
    let at = c.entries.used in
    let n = c.next_entry-pulled.result.used in
    let was = c.entries.decoder in
    let now = c.next_entry-pulled.new.self in
    let e = c.in-Given.field-0 in
    let left : length rest ≡ length (drop at piece) = ap length c.split_at.ensures.back in
    record {
      within = omega (arith, c.next_entry-pulled.ensures.used, left, length-drop at piece, c.entries.invariant.within);
      closed = omega arith;
      passed = λ form p found next good taken begun.
          let b = c.entries.invariant.passed form p found next good taken begun in
          let all = found ++ map found_entry b.0.entries in
          let did = rw c.in-Given.is at (c.next_entry-pulled.ensures.pulled (p ++ take at piece) all b.0.taken.stop b.0.taken.stands) in
          let ends = rw c.in-Given.is at (c.next_entry-pulled.ensures.block (form.0) (b.0.followed.next ++ 0 ∷ []) b.0.taken.stop b.1) in
          let took : HasTakenOn now form (p ++ take (at + n) piece) (all ++ found_entry e ∷ []) =
          takes_on was now form (p ++ take at piece) (p ++ take (at + n) piece) all (all ++ found_entry e ∷ []) b.0.taken c.next_entry-pulled.ensures.form c.next_entry-pulled.ensures.limits c.next_entry-pulled.ensures.stop
          (subst (λ (q : List ℕ). StandsOn now q (all ++ found_entry e ∷ [])) (text_on p piece rest at n c.split_at.ensures.back) did.2) in
          (passed_entry was now form p found next piece at n b.0 e took rest (λ q. text_on q piece rest at n c.split_at.ensures.back) did.0 ends, ends.0.begun);
    }

pub returns-in-entries-clause-passed : goal.returns-in-entries-clause-passed
returns-in-entries-clause-passed c form p found next good taken begun =
    let piece = c.args.piece.now in
    let rest = c.split_at.result.1.now in
    let at = c.entries.used in
    let n = c.next_entry-pulled.result.used in
    let was = c.entries.decoder in
    let now = c.next_entry-pulled.new.self in
    let b = c.entries.invariant.passed form p found next good taken begun in
    let all = found ++ map found_entry b.0.entries in
    let stands = took_none (going_form_of now) now.records now.meter (p ++ take at piece) all rest n c.next_entry-pulled.result.what c.in_default.not-Given (c.next_entry-pulled.ensures.pulled (p ++ take at piece) all b.0.taken.stop b.0.taken.stands) in
    subst (λ (m : ℕ). HavePassed now form p found next piece (at + n) m) (sym c.entries.invariant.closed) (record {
      entries = b.0.entries;
      taken = takes_on was now form (p ++ take at piece) (p ++ take (at + n) piece) all all b.0.taken c.next_entry-pulled.ensures.form c.next_entry-pulled.ensures.limits c.next_entry-pulled.ensures.stop
          (subst (λ (q : List ℕ). StandsOn now q all) (text_on p piece rest at n c.split_at.ensures.back) stands);
      some = b.0.some;
      none = b.0.none;
      followed = b.0.followed;
    })
