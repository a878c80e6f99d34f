-- The head of one more record of the present entry, taken at once.
use Rattle.std.proofs.Common.{◌≡◌, ℕ, suc, ◌+◌, ◌<◌, ◌≤◌, get_or, List, [], ◌∷◌, ◌++◌, take, drop, length, All, refl, sym, ap, subst, ◌∙◌, append_assoc, arith, inl, inr, Some, false, true}
use Rattle.std.proofs.Math.Seq.{take-add}
use Rattle.std.specs.List.{AllByRecursion}
use Rattle.std.proofs.lemmas.List.{append-nil, length-append, take-append-le, take_all}
use Rattle.cg_text.specs.Texts.{Lacks}
use Rattle.cg_text.specs.TextsLaws.{lacks_both}
use Rattle.cg_text.specs.Token.{saturated}
use Rattle.cg_value.specs.Entry.{EntryData, IsPathByte}
use Rattle.cg_value.specs.Lines.{unlines}
use Rattle.cg_value.specs.declared.kind.ReadForm.{ReadForm}
use Rattle.cg_value.specs.declared.profile.Profile.{Profile}
use Rattle.cg_line.specs.Reads.{Reads, reads_viable}
use Rattle.cg_line.specs.declared.reader.ValueReader.{ValueReader}
use Rattle.cg_snap.specs.Course.{AreFew, AreOfRecord}
use Rattle.cg_snap.specs.DecoderState.{HasConsumed, HasConsumedInLine, HasConsumedInPath, CanEndLine}
use Rattle.cg_snap.specs.PathBytes.{ArePathBytes}
use Rattle.cg_snap.specs.HeadState.{Repeats}
use Rattle.cg_snap.specs.SnapStop.{IsManyRecords}
use Rattle.cg_snap.specs.declared.present.CurrentEntry.{CurrentEntry}
use Rattle.cg_snap.proofs.Nuls.{full_is}
use Rattle.cg_snap.proofs.PathRuns.{cut_at}
use Rattle.cg_snap.proofs.Runs.{few_push, line_few, path_few}
use Rattle.cg_snap.proofs.States.{at_false}
use Rattle.cg_snap.proofs.Steps.{bytes_no_newline, line_run, line_whole, path_run, same_path}

-- The head of a piece that begins with a path and a NUL.
pub head_is : (path rest piece : List ℕ) (n : ℕ) → piece ≡ path ++ 0 ∷ rest → n ≡ length path + 1 → take n piece ≡ path ++ 0 ∷ []
head_is path rest piece n e m =
    let whole : piece ≡ (path ++ 0 ∷ []) ++ rest = e ∙ sym (append_assoc path (0 ∷ []) rest) in
    let long : n ≡ length (path ++ 0 ∷ []) = omega (arith, m, length-append path (0 ∷ [])) in
    rw (whole, long) (take-append-le {A = ℕ} (length (path ++ 0 ∷ [])) (path ++ 0 ∷ []) rest (omega arith) ∙ take_all (length (path ++ 0 ∷ [])) (path ++ 0 ∷ []) (omega arith))

-- ---- Paths

all_rest : (x : ℕ) (xs : List ℕ) → All IsPathByte (x ∷ xs) → All IsPathByte xs
all_rest x xs h = λ k d l. h (suc k) d (omega (arith, l))

pub path_bytes : (path : List ℕ) → All IsPathByte path → ArePathBytes path
path_bytes [] h = tt
path_bytes (x ∷ xs) h = (h 0 0 (omega arith), path_bytes xs (all_rest x xs h))

-- ---- The head

module _ (profile : Profile) (x : CurrentEntry) (p : List ℕ) (es : List EntryData) (h : HasConsumedInPath profile [] x p es) where
  head_bytes : ArePathBytes x.path.items
  head_bytes = path_bytes x.path.items h.good.bytes

  after_path : HasConsumedInPath profile x.path.items x (p ++ x.path.items) es
  after_path = path_run profile [] x.path.items x p es x.path.items head_bytes refl h

  pub head_plain : Lacks 10 (x.path.items ++ 0 ∷ [])
  head_plain = lacks_both 10 x.path.items (0 ∷ []) (bytes_no_newline x.path.items head_bytes) ((λ e. absurd (omega (arith, e))), tt)

  pub head_few : (max : ℕ) → max ≤ 18446744073709551615 → x.in_line ≡ false → x.lines < max → AreFew (IsManyRecords profile max) p (x.path.items ++ 0 ∷ [])
  head_few max u i few =
      let path = x.path.items in
      let before : HasConsumed profile [] (Some x) p es = at_false (HasConsumedInLine profile [] x p es) (HasConsumedInPath profile [] x p es) x.in_line i h in
      let after : HasConsumed profile path (Some x) (p ++ path) es = at_false (HasConsumedInLine profile path x (p ++ path) es) (HasConsumedInPath profile path x (p ++ path) es) x.in_line i after_path in
      few_push (IsManyRecords profile max) p path 0 (path_few profile max [] (Some x) p path es before i head_bytes)
      (full_is profile path (Some x) (p ++ path) es x.lines max false u i after ((λ e. refl), (λ n. absurd (n refl))) (λ e. absurd (cc)) (λ e. few))

-- ---- The record

few_both : (Many : List ℕ → ℕ → Type 0) (p a b : List ℕ) → AreFew Many p a → AreFew Many (p ++ a) b → AreFew Many p (a ++ b)
few_both Many p [] b f g = subst (λ (t : List ℕ). AreFew Many t b) (append-nil p) g
few_both Many p (c ∷ a) b f g = (f.0, few_both Many (p ++ c ∷ []) a b f.1 (subst (λ (t : List ℕ). AreFew Many t b) (sym (append_assoc p (c ∷ []) a)) g))

-- The bytes of a record that stands in front of others: its head, and its line with the newline.
pub record_is : (path rest bytes line : List ℕ) (count used : ℕ) → bytes ≡ path ++ 0 ∷ rest → count ≡ length path + 1 → take used (drop count bytes) ≡ line ++ 10 ∷ [] →
    take (count + used) bytes ≡ (path ++ 0 ∷ []) ++ (line ++ 10 ∷ [])
record_is path rest bytes line count used e m l = take-add count used bytes ∙ (ap (λ (q : List ℕ). q ++ take used (drop count bytes)) (head_is path rest bytes count e m) ∙ ap (λ (q : List ℕ). (path ++ 0 ∷ []) ++ q) l)

pub part_is : (path rest bytes back : List ℕ) (count used : ℕ) → bytes ≡ path ++ 0 ∷ rest → count ≡ length path + 1 → back ≡ drop count bytes → take (count + used) bytes ≡ (path ++ 0 ∷ []) ++ take used back
part_is path rest bytes back count used e m b = take-add count used bytes ∙ (ap (λ (q : List ℕ). q ++ take used (drop count bytes)) (head_is path rest bytes count e m) ∙ ap (λ (q : List ℕ). (path ++ 0 ∷ []) ++ take used q) (sym b))

-- Bytes of the record's line, without its newline, were taken after its head.
module _ (profile : Profile) (x : CurrentEntry) (now : ValueReader) (p : List ℕ) (es : List EntryData) (h : HasConsumedInPath profile [] x p es) (part : List ℕ) (plain : Lacks 10 part)
    (reads : (kind : ReadForm) (taken : List ℕ) → Reads x.reader kind taken → Reads now kind (taken ++ part))
    (goes : (kind : ReadForm) (lines : List (List ℕ)) → AllByRecursion (Lacks 10) lines → Reads x.reader kind (unlines lines) → CanEndLine kind lines []) where
  abbrev line_at_head : CurrentEntry
  line_at_head = record { path = x.path; reader = x.reader; lines = x.lines; in_line = true; sound = x.sound }

  at_head : HasConsumedInLine profile [] line_at_head (p ++ (x.path.items ++ 0 ∷ [])) es
  at_head =
      let a = after_path profile x p es h in
      let nul = same_path profile x.path.items [] x line_at_head (p ++ x.path.items) es 0 a refl refl refl refl refl a.reads (goes a.kind a.lines a.plain a.reads) in
      subst (λ (q : List ℕ). HasConsumedInLine profile [] line_at_head q es) (append_assoc p x.path.items (0 ∷ [])) nul

  pub part_taken : (y : CurrentEntry) (bytes : List ℕ) → bytes ≡ (x.path.items ++ 0 ∷ []) ++ part → y.path.items ≡ x.path.items → y.lines ≡ x.lines → y.reader ≡ now → HasConsumedInLine profile [] y (p ++ bytes) es
  part_taken y bytes e path lines reader =
      let l = at_head in
      let after : Reads y.reader l.kind ((unlines l.lines ++ l.line) ++ part) =
      subst (λ (o : ValueReader). Reads o l.kind ((unlines l.lines ++ l.line) ++ part)) (sym reader) (reads l.kind (unlines l.lines ++ l.line) l.reads) in
      let whole = line_run profile [] line_at_head y (p ++ (x.path.items ++ 0 ∷ [])) es part l plain path lines after in
      subst (λ (q : List ℕ). HasConsumedInLine profile [] y q es) (append_assoc p (x.path.items ++ 0 ∷ []) part ∙ ap (λ (q : List ℕ). p ++ q) (sym e)) whole

  pub part_few : (bytes : List ℕ) (max : ℕ) → bytes ≡ (x.path.items ++ 0 ∷ []) ++ part → max ≤ 18446744073709551615 → x.in_line ≡ false → x.lines < max → AreFew (IsManyRecords profile max) p bytes
  part_few bytes max e u i few = subst (AreFew (IsManyRecords profile max) p) (sym e)
      (few_both (IsManyRecords profile max) p (x.path.items ++ 0 ∷ []) part (head_few profile x p es h max u i few)
      (line_few profile max [] line_at_head (p ++ (x.path.items ++ 0 ∷ [])) part es at_head refl (inl plain)))

  pub part_plain : (bytes : List ℕ) → bytes ≡ (x.path.items ++ 0 ∷ []) ++ part → AreOfRecord bytes
  part_plain bytes e = inl (subst (Lacks 10) (sym e) (lacks_both 10 (x.path.items ++ 0 ∷ []) part (head_plain profile x p es h) plain))

module _ (profile : Profile) (x : CurrentEntry) (now : ValueReader) (p : List ℕ) (es : List EntryData) (h : HasConsumedInPath profile [] x p es) (line : List ℕ) (plain : Lacks 10 line)
    (reads : (kind : ReadForm) (taken : List ℕ) → Reads x.reader kind taken → Reads now kind (taken ++ (line ++ 10 ∷ []))) where
  abbrev begun_line : CurrentEntry
  begun_line = record { path = x.path; reader = x.reader; lines = x.lines; in_line = true; sound = x.sound }

  -- The line can be ended, since it was.
  after_head : HasConsumedInLine profile [] begun_line (p ++ (x.path.items ++ 0 ∷ [])) es
  after_head =
      let a = after_path profile x p es h in
      let goes : CanEndLine a.kind a.lines [] = (line, plain, reads_viable now a.kind (unlines a.lines ++ (line ++ 10 ∷ [])) (reads a.kind (unlines a.lines) a.reads)) in
      let nul = same_path profile x.path.items [] x begun_line (p ++ x.path.items) es 0 a refl refl refl refl refl a.reads goes in
      subst (λ (q : List ℕ). HasConsumedInLine profile [] begun_line q es) (append_assoc p x.path.items (0 ∷ [])) nul

  pub record_taken : (y : CurrentEntry) (bytes : List ℕ) → bytes ≡ (x.path.items ++ 0 ∷ []) ++ (line ++ 10 ∷ []) → y.path.items ≡ x.path.items → y.lines ≡ saturated (x.lines + 1) → y.reader ≡ now → HasConsumedInPath profile [] y (p ++ bytes) es
  record_taken y bytes e path lines reader =
      let l = after_head in
      let after : Reads y.reader l.kind ((unlines l.lines ++ l.line) ++ (line ++ 10 ∷ [])) =
      subst (λ (o : ValueReader). Reads o l.kind ((unlines l.lines ++ l.line) ++ (line ++ 10 ∷ []))) (sym reader) (reads l.kind (unlines l.lines ++ l.line) l.reads) in
      let whole = line_whole profile [] begun_line y (p ++ (x.path.items ++ 0 ∷ [])) es line l plain path lines after in
      subst (λ (q : List ℕ). HasConsumedInPath profile [] y q es) (append_assoc p (x.path.items ++ 0 ∷ []) (line ++ 10 ∷ []) ∙ ap (λ (q : List ℕ). p ++ q) (sym e)) whole

  pub record_few : (bytes : List ℕ) (max : ℕ) → bytes ≡ (x.path.items ++ 0 ∷ []) ++ (line ++ 10 ∷ []) → max ≤ 18446744073709551615 → x.in_line ≡ false → x.lines < max → AreFew (IsManyRecords profile max) p bytes
  record_few bytes max e u i few = subst (AreFew (IsManyRecords profile max) p) (sym e)
      (few_both (IsManyRecords profile max) p (x.path.items ++ 0 ∷ []) (line ++ 10 ∷ []) (head_few profile x p es h max u i few)
      (line_few profile max [] begun_line (p ++ (x.path.items ++ 0 ∷ [])) (line ++ 10 ∷ []) es after_head refl (inr (line, refl, plain))))

  pub record_part : (bytes : List ℕ) → bytes ≡ (x.path.items ++ 0 ∷ []) ++ (line ++ 10 ∷ []) → AreOfRecord bytes
  record_part bytes e =
      let head = x.path.items ++ 0 ∷ [] in
      inr (head ++ line, e ∙ sym (append_assoc head line (10 ∷ [])), lacks_both 10 head line (head_plain profile x p es h) plain)

-- What the parts of a test say.
pub repeats_is : (x : CurrentEntry) (bytes : List ℕ) (size max : ℕ) → size < length bytes → get_or bytes size 0 ≡ 0 → take size bytes ≡ x.path.items → x.lines < max → Repeats x bytes max
repeats_is x bytes size max inside nul same few = record {
  rest = drop (size + 1) bytes;
  begins = cut_at bytes size inside nul ∙ ap (λ (path : List ℕ). path ++ 0 ∷ drop (size + 1) bytes) same;
  few = few;
}
