use Rattle.std.proofs.Common.{◌≡◌, ◌<◌, ◌∙◌, ◌+◌, ℕ, List, [], ◌∷◌, ◌++◌, append-nil, drop, inl, inr, length, take, refl, sym, ap, subst, arith}
use Rattle.std.specs.List.{AllByRecursion}
use Rattle.std.proofs.lemmas.Bool.{iff_false}
use Rattle.std.proofs.lemmas.List.{length-take-le}
use Rattle.cg_text.specs.Texts.{Lacks}
use Rattle.cg_value.specs.Files.{KindFile}
use Rattle.cg_value.specs.Lines.{unlines}
use Rattle.cg_value.specs.declared.kind.ReadForm.{ReadForm}
use Rattle.cg_line.specs.Reads.{Reads, reads_viable}
use Rattle.cg_snap.specs.DecoderState.{CanEndLine}
use Rattle.cg_snap.proofs.Heads.{part_few, part_is, part_plain, part_taken, record_few, record_is, record_part, record_taken}
use Rattle.cg_snap.proofs.Runs.{cut_ended, cut_plain, run_cut}
use Rattle.cg_snap.proofs.Sounds.{sound_after}
use Rattle.cg_snap.proofs.States.{at_false, takes_more}
use Rattle.cg_snap.proofs.Steps.{path_kept, run_begins}
use Rattle.cg_snap.proofs.entry.take_again.Goals as goal

pub invariant_of-present : goal.invariant_of-present
invariant_of-present c =
    let x = c.args.present.now in
    record { sound = sound_after x.path.items x.reader c.push_run-run.new.self x.sound (λ k s r. (s ++ take c.push_run-run.result.used c.split_at.result.1.now, (c.push_run-run.ensures.pushed k s r).reads)) }

pub invariant_of-present-then-not-has_line : goal.invariant_of-present-then-not-has_line
invariant_of-present-then-not-has_line c =
    let x = c.args.present.now in
    record { sound = sound_after x.path.items x.reader c.push_run-run.new.self x.sound (λ k s r. (s ++ take c.push_run-run.result.used c.split_at.result.1.now, (c.push_run-run.ensures.pushed k s r).reads)) }

pub invariant_of-present-2 : goal.invariant_of-present-2
invariant_of-present-2 c =
    let x = c.args.present.now in
    record { sound = sound_after x.path.items x.reader c.push_run-run.new.self x.sound (λ k s r. (s ++ take c.push_run-run.result.used c.split_at.result.1.now, (c.push_run-run.ensures.pushed k s r).reads)) }

pub returns-then-ends_line-clause-taken : goal.returns-then-ends_line-clause-taken
returns-then-ends_line-clause-taken c = λ profile p es h.
    let x = c.args.present.now in
    let bytes = c.args.bytes.now in
    let run = c.push_run-run in
    let rest = c.split_at.result.1.now in
    let used = run.result.used in
    let count = c.len-head.result + 1 in
    let head = c.repeats.ensures c.if-not-repeats.false in
    let cut = run_cut (KindFile h.kind) (unlines h.lines) rest used run.result.fault (run.ensures.pushed h.kind (unlines h.lines) h.reads).stops in
    let line = cut_ended rest used run.ensures.within cut (c.ends_line.ensures.0 c.if-ends_line.true) in
    let text : take used (drop count bytes) ≡ line.0 ++ 10 ∷ [] = ap (λ (q : List ℕ). take used q) (sym c.split_at.ensures.back) ∙ line.1 in
    let is = record_is x.path.items head.rest bytes line.0 count used head.begins (omega (arith, c.len-head.ensures, x.path.ok.0)) text in
    let reads = λ (k : ReadForm) (t : List ℕ) (r : Reads x.reader k t). subst (λ (q : List ℕ). Reads run.new.self k (t ++ q)) line.1 (run.ensures.pushed k t r).reads in
    at_false _ _ x.in_line c.requires (record_taken profile x run.new.self p es h line.0 line.2 reads _ (take (count + used) bytes) is refl c.saturating_add-present.ensures refl)

pub returns-then-ends_line-clause-few : goal.returns-then-ends_line-clause-few
returns-then-ends_line-clause-few c = λ profile p es h.
    let x = c.args.present.now in
    let bytes = c.args.bytes.now in
    let run = c.push_run-run in
    let rest = c.split_at.result.1.now in
    let used = run.result.used in
    let count = c.len-head.result + 1 in
    let head = c.repeats.ensures c.if-not-repeats.false in
    let cut = run_cut (KindFile h.kind) (unlines h.lines) rest used run.result.fault (run.ensures.pushed h.kind (unlines h.lines) h.reads).stops in
    let line = cut_ended rest used run.ensures.within cut (c.ends_line.ensures.0 c.if-ends_line.true) in
    let text : take used (drop count bytes) ≡ line.0 ++ 10 ∷ [] = ap (λ (q : List ℕ). take used q) (sym c.split_at.ensures.back) ∙ line.1 in
    let is = record_is x.path.items head.rest bytes line.0 count used head.begins (omega (arith, c.len-head.ensures, x.path.ok.0)) text in
    let reads = λ (k : ReadForm) (t : List ℕ) (r : Reads x.reader k t). subst (λ (q : List ℕ). Reads run.new.self k (t ++ q)) line.1 (run.ensures.pushed k t r).reads in
    record_few profile x run.new.self p es h line.0 line.2 reads (take (count + used) bytes) c.args.max_lines is (omega (arith, c.ranges.max_lines.fits)) c.requires head.few

pub returns-then-ends_line-clause-of_record : goal.returns-then-ends_line-clause-of_record
returns-then-ends_line-clause-of_record c = λ profile p es h.
    let x = c.args.present.now in
    let bytes = c.args.bytes.now in
    let run = c.push_run-run in
    let rest = c.split_at.result.1.now in
    let used = run.result.used in
    let count = c.len-head.result + 1 in
    let head = c.repeats.ensures c.if-not-repeats.false in
    let cut = run_cut (KindFile h.kind) (unlines h.lines) rest used run.result.fault (run.ensures.pushed h.kind (unlines h.lines) h.reads).stops in
    let line = cut_ended rest used run.ensures.within cut (c.ends_line.ensures.0 c.if-ends_line.true) in
    let text : take used (drop count bytes) ≡ line.0 ++ 10 ∷ [] = ap (λ (q : List ℕ). take used q) (sym c.split_at.ensures.back) ∙ line.1 in
    let is = record_is x.path.items head.rest bytes line.0 count used head.begins (omega (arith, c.len-head.ensures, x.path.ok.0)) text in
    let reads = λ (k : ReadForm) (t : List ℕ) (r : Reads x.reader k t). subst (λ (q : List ℕ). Reads run.new.self k (t ++ q)) line.1 (run.ensures.pushed k t r).reads in
    record_part profile x run.new.self p es h line.0 line.2 reads (take (count + used) bytes) is

pub returns-then-not-has_line-clause-taken : goal.returns-then-not-has_line-clause-taken
returns-then-not-has_line-clause-taken c = λ profile p es h.
    let x = c.args.present.now in
    let new = c.push_run-run.new.self in
    let none : c.push_run-run.result.used ≡ 0 = c.has_line.ensures.none c.if-not-has_line.true in
    let reads = λ (k : ReadForm) (t : List ℕ) (r : Reads x.reader k t). subst (λ (q : List ℕ). Reads new k q) (append-nil t) (subst (λ (n : ℕ). Reads new k (t ++ take n c.split_at.result.1.now)) none (c.push_run-run.ensures.pushed k t r).reads) in
    rw (append-nil p) (at_false _ _ x.in_line c.requires (path_kept profile [] x _ p es h refl refl (reads h.kind (unlines h.lines) h.reads)))

pub returns-clause-taken : goal.returns-clause-taken
returns-clause-taken c = λ profile p es h.
    let x = c.args.present.now in
    let bytes = c.args.bytes.now in
    let run = c.push_run-run in
    let rest = c.split_at.result.1.now in
    let used = run.result.used in
    let count = c.len-head.result + 1 in
    let head = c.repeats.ensures c.if-not-repeats.false in
    let cut = run_cut (KindFile h.kind) (unlines h.lines) rest used run.result.fault (run.ensures.pushed h.kind (unlines h.lines) h.reads).stops in
    let plain = cut_plain rest used run.ensures.within cut (iff_false c.ends_line.ensures c.if-ends_line.false) in
    let is = part_is x.path.items head.rest bytes rest count used head.begins (omega (arith, c.len-head.ensures, x.path.ok.0)) c.split_at.ensures.back in
    let reads = λ (k : ReadForm) (t : List ℕ) (r : Reads x.reader k t). (run.ensures.pushed k t r).reads in
    let goes : (k : ReadForm) (ls : List (List ℕ)) → AllByRecursion (Lacks 10) ls → Reads x.reader k (unlines ls) → CanEndLine k ls [] = λ k ls all r.
    elim (c.has_line.ensures.line c.if-not-has_line.false) [
      | inl some ↦ (let many : 0 < length (take used rest) = omega (arith, some, length-take-le used rest run.ensures.within) in
          run_begins k ls (take used rest) many plain all (reads_viable run.new.self k _ (reads k (unlines ls) r)))
      | inr w ↦ takes_more k ls (w.1 k (unlines ls) (subst (λ (q : List ℕ). Reads run.new.self k q) (append-nil (unlines ls)) (subst (λ (n : ℕ). Reads run.new.self k (unlines ls ++ take n rest)) w.0 (reads k (unlines ls) r))))
    ] in
    part_taken profile x run.new.self p es h (take used rest) plain reads goes _ (take (count + used) bytes) is refl refl refl

pub returns-clause-few : goal.returns-clause-few
returns-clause-few c = λ profile p es h.
    let x = c.args.present.now in
    let bytes = c.args.bytes.now in
    let run = c.push_run-run in
    let rest = c.split_at.result.1.now in
    let used = run.result.used in
    let count = c.len-head.result + 1 in
    let head = c.repeats.ensures c.if-not-repeats.false in
    let cut = run_cut (KindFile h.kind) (unlines h.lines) rest used run.result.fault (run.ensures.pushed h.kind (unlines h.lines) h.reads).stops in
    let plain = cut_plain rest used run.ensures.within cut (iff_false c.ends_line.ensures c.if-ends_line.false) in
    let is = part_is x.path.items head.rest bytes rest count used head.begins (omega (arith, c.len-head.ensures, x.path.ok.0)) c.split_at.ensures.back in
    let reads = λ (k : ReadForm) (t : List ℕ) (r : Reads x.reader k t). (run.ensures.pushed k t r).reads in
    let goes : (k : ReadForm) (ls : List (List ℕ)) → AllByRecursion (Lacks 10) ls → Reads x.reader k (unlines ls) → CanEndLine k ls [] = λ k ls all r.
    elim (c.has_line.ensures.line c.if-not-has_line.false) [
      | inl some ↦ (let many : 0 < length (take used rest) = omega (arith, some, length-take-le used rest run.ensures.within) in
          run_begins k ls (take used rest) many plain all (reads_viable run.new.self k _ (reads k (unlines ls) r)))
      | inr w ↦ takes_more k ls (w.1 k (unlines ls) (subst (λ (q : List ℕ). Reads run.new.self k q) (append-nil (unlines ls)) (subst (λ (n : ℕ). Reads run.new.self k (unlines ls ++ take n rest)) w.0 (reads k (unlines ls) r))))
    ] in
    part_few profile x run.new.self p es h (take used rest) plain reads goes (take (count + used) bytes) c.args.max_lines is (omega (arith, c.ranges.max_lines.fits)) c.requires head.few

pub returns-clause-of_record : goal.returns-clause-of_record
returns-clause-of_record c = λ profile p es h.
    let x = c.args.present.now in
    let bytes = c.args.bytes.now in
    let run = c.push_run-run in
    let rest = c.split_at.result.1.now in
    let used = run.result.used in
    let count = c.len-head.result + 1 in
    let head = c.repeats.ensures c.if-not-repeats.false in
    let cut = run_cut (KindFile h.kind) (unlines h.lines) rest used run.result.fault (run.ensures.pushed h.kind (unlines h.lines) h.reads).stops in
    let plain = cut_plain rest used run.ensures.within cut (iff_false c.ends_line.ensures c.if-ends_line.false) in
    let is = part_is x.path.items head.rest bytes rest count used head.begins (omega (arith, c.len-head.ensures, x.path.ok.0)) c.split_at.ensures.back in
    let reads = λ (k : ReadForm) (t : List ℕ) (r : Reads x.reader k t). (run.ensures.pushed k t r).reads in
    let goes : (k : ReadForm) (ls : List (List ℕ)) → AllByRecursion (Lacks 10) ls → Reads x.reader k (unlines ls) → CanEndLine k ls [] = λ k ls all r.
    elim (c.has_line.ensures.line c.if-not-has_line.false) [
      | inl some ↦ (let many : 0 < length (take used rest) = omega (arith, some, length-take-le used rest run.ensures.within) in
          run_begins k ls (take used rest) many plain all (reads_viable run.new.self k _ (reads k (unlines ls) r)))
      | inr w ↦ takes_more k ls (w.1 k (unlines ls) (subst (λ (q : List ℕ). Reads run.new.self k q) (append-nil (unlines ls)) (subst (λ (n : ℕ). Reads run.new.self k (unlines ls ++ take n rest)) w.0 (reads k (unlines ls) r))))
    ] in
    part_plain profile x run.new.self p es h (take used rest) plain reads goes (take (count + used) bytes) is
