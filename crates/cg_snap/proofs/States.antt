-- The same of a decoder's state, whatever it is.
use Rattle.std.proofs.Common.{◌≡◌, ◌≢◌, ℕ, ◌+◌, ◌<◌, Bool, true, false, List, [], ◌∷◌, ◌++◌, Option, Some, None, refl, sym, ap, subst, ◌∙◌, append_assoc, inl, inr, ◌⊎◌, arith}
use Rattle.std.specs.Bool.{MatchBool}
use Rattle.std.specs.Prelude.{MatchOption}
use Rattle.std.proofs.lemmas.Bool.{MatchBool-at_true, MatchBool-at_false}
use Rattle.cg_text.specs.ListFacts.{push_one}
use Rattle.cg_text.specs.Texts.{Lacks, Viable, Next}
use Rattle.cg_text.specs.Token.{saturated}
use Rattle.cg_value.specs.Entry.{EntryData, IsPath, IsPathByte, ReadsAt}
use Rattle.cg_value.specs.Files.{KindFile}
use Rattle.cg_value.specs.Lines.{unlines}
use Rattle.cg_value.specs.declared.kind.ReadForm.{ReadForm}
use Rattle.cg_value.specs.declared.profile.Profile.{Profile}
use Rattle.cg_file.specs.WeightFileLaws.{not_empty}
use Rattle.cg_line.specs.MadeLaws.{reads_once}
use Rattle.cg_line.specs.Place.{AtLineStart, TakesLine}
use Rattle.cg_line.specs.Reads.{Reads}
use Rattle.cg_snap.specs.Closed.{Closed}
use Rattle.cg_snap.specs.Begun.{IsBegun}
use Rattle.cg_snap.specs.DecoderState.{HasConsumedInLine, HasConsumedInPath, HasConsumedBetween, HasConsumedAPath, HasConsumed, CanEndLine, IsBetween, IsLineFlag, IsOfKind, IsWhyAfter}
use Rattle.cg_snap.specs.PathBytes.{ArePathBytes}
use Rattle.cg_snap.specs.Snap.{AreEntryLines, Snap}
use Rattle.cg_snap.specs.SnapStop.{IsNameless}
use Rattle.cg_snap.specs.declared.present.CurrentEntry.{CurrentEntry}
use Rattle.cg_snap.specs.declared.stop.Why.TheVariants as whys
use Rattle.cg_snap.proofs.Closes.{line_begun, line_closed, path_begun, path_closed, start_begun, start_closed}
use Rattle.cg_snap.proofs.Refusals.{head_byte, head_nul, line_takes, path_head, same_nul, start_head}
use Rattle.cg_snap.proofs.Steps.{all_both, all_bytes, bytes_no_nul, line_run, line_viable, line_whole, next_path, path_run, path_viable, start_viable}

-- ---- Flags

pub at_false : (P Q : Type 0) (b : Bool) → b ≡ false → Q → MatchBool b P Q
at_false P Q true e q = absurd (cc)
at_false P Q false e q = q

pub at_true : (P Q : Type 0) (b : Bool) → b ≡ true → P → MatchBool b P Q
at_true P Q true e q = q
at_true P Q false e q = absurd (cc)

pub by_flag : (P Q R : Type 0) (b : Bool) → MatchBool b P Q → (P → R) → (Q → R) → R
by_flag P Q R true h f g = f h
by_flag P Q R false h f g = g h

pub flag_between : (o : Option CurrentEntry) (b : Bool) → IsLineFlag o b → b ≡ false → IsBetween o
flag_between None b f e = tt
flag_between (Some x) b f e = sym f ∙ e

-- ---- Paths and their names

nameless_empty : (path front : List ℕ) (last : ℕ) → path ≡ front ++ last ∷ [] → path ≡ [] → ⊥
nameless_empty path [] last e f = absurd (cc)
nameless_empty path (b ∷ front) last e f = absurd (cc)

-- A path has a name.
pub path_named : (path : List ℕ) → IsPath path → IsNameless path → ⊥
path_named path p (inl e) = nameless_empty path p.front p.last p.ends e
path_named path p (inr s) = p.named (push_one p.front s.0 p.last 47 (sym p.ends ∙ s.1)).1

ends_by : (path : List ℕ) → path ≢ [] → (front : List ℕ) × (last : ℕ) × (path ≡ front ++ last ∷ [])
ends_by [] n = absurd (n refl)
ends_by (b ∷ []) n = ([], b, refl)
ends_by (b ∷ c ∷ path) n = let r = ends_by (c ∷ path) (λ e. absurd (cc)) in (b ∷ r.0, r.1, ap (λ (t : List ℕ). b ∷ t) r.2)

-- The bytes of a path that has a name are a path.
pub named_path : (path : List ℕ) → ArePathBytes path → (IsNameless path → ⊥) → IsPath path
named_path path b n =
    let e = ends_by path (λ z. n (inl z)) in
    record { bytes = all_bytes path b; front = e.0; last = e.1; ends = e.2; named = λ z. n (inr (e.0, e.2 ∙ ap (λ (c : ℕ). e.0 ++ c ∷ []) z)) }

-- ---- What a further line is

pub line_starts : (ls : List (List ℕ)) → AtLineStart (unlines ls)
line_starts [] = inl refl
line_starts (l ∷ []) = inr (l, refl)
line_starts (l ∷ m ∷ ls) = elim (line_starts (m ∷ ls)) [
  | inl e ↦ absurd (not_empty m (unlines ls) 10 e)
  | inr f ↦ inr (l ++ 10 ∷ f.0, ap (λ (t : List ℕ). l ++ 10 ∷ t) f.1 ∙ sym (append_assoc l (10 ∷ f.0) (10 ∷ [])))
]

pub takes_more : (kind : ReadForm) (ls : List (List ℕ)) → TakesLine kind (unlines ls) → CanEndLine kind ls []
takes_more kind ls t = (t.line, t.plain, t.goes)

pub more_takes : (kind : ReadForm) (ls : List (List ℕ)) → CanEndLine kind ls [] → TakesLine kind (unlines ls)
more_takes kind ls c = record { not_begun = line_starts ls; line = c.0; plain = c.1; goes = c.2 }

module _ (profile : Profile) where
  pub between : (begun : List ℕ) (o : Option CurrentEntry) (p : List ℕ) (es : List EntryData) → IsBetween o → HasConsumed profile begun o p es → HasConsumedBetween profile begun o p es
  between begun None p es b h = h
  between begun (Some x) p es b h = MatchBool-at_false _ _ b h

  pub back : (begun : List ℕ) (o : Option CurrentEntry) (p : List ℕ) (es : List EntryData) → IsBetween o → HasConsumedBetween profile begun o p es → HasConsumed profile begun o p es
  back begun None p es b h = h
  back begun (Some x) p es b h = at_false (HasConsumedInLine profile begun x p es) (HasConsumedInPath profile begun x p es) x.in_line b h

  pub paths_head : (begun : List ℕ) (o : Option CurrentEntry) (p : List ℕ) (es : List EntryData) (b : ℕ) → HasConsumedBetween profile begun o p es → Next (Snap profile) p b → (b ≡ 0) ⊎ IsPathByte b
  paths_head begun None p es b h v = let g = start_head profile begun p es b h v in head_byte profile begun g.0 b h.begun_path g.1
  paths_head begun (Some x) p es b h v = let g = path_head profile begun x p es b h v in head_byte profile begun g.0 b h.begun_path g.1

  pub paths_nul : (begun : List ℕ) (o : Option CurrentEntry) (p : List ℕ) (es : List EntryData) → HasConsumedBetween profile begun o p es → Next (Snap profile) p 0 → IsPath begun × ((k : ReadForm) × ReadsAt profile begun (Some k))
  paths_nul begun None p es h v = let g = start_head profile begun p es 0 h v in head_nul profile begun g.0 h.begun_path g.1
  paths_nul begun (Some x) p es h v = let g = path_head profile begun x p es 0 h v in head_nul profile begun g.0 h.begun_path g.1

  pub paths_begun : (begun : List ℕ) (o : Option CurrentEntry) (p : List ℕ) (es : List EntryData) → HasConsumedBetween profile begun o p es → IsBegun p begun × ArePathBytes begun
  paths_begun begun None p es h = (start_begun begun p es h, h.begun_path)
  paths_begun begun (Some x) p es h = (path_begun profile begun x p es h, h.begun_path)

  pub paths_run : (begun begun' : List ℕ) (o : Option CurrentEntry) (p : List ℕ) (es : List EntryData) (bs : List ℕ) → ArePathBytes bs → begun' ≡ begun ++ bs → HasConsumedBetween profile begun o p es → HasConsumedBetween profile begun' o (p ++ bs) es
  paths_run begun begun' None p es bs q e h = record { none = h.none; bytes = rw (h.bytes, e) refl; begun_path = rw e (all_both IsPathByte begun bs h.begun_path q) }
  paths_run begun begun' (Some x) p es bs q e h = path_run profile begun begun' x p es bs q e h

  pub paths_viable : (begun : List ℕ) (o : Option CurrentEntry) (p : List ℕ) (es : List EntryData) → HasConsumedBetween profile begun o p es → Viable (Snap profile) p
  paths_viable begun None p es h = start_viable profile begun p es h
  paths_viable begun (Some x) p es h = path_viable profile begun x p es h

  -- ---- What holds in each state

  pub at_viable : (begun : List ℕ) (o : Option CurrentEntry) (p : List ℕ) (es : List EntryData) → HasConsumed profile begun o p es → Viable (Snap profile) p
  at_viable begun None p es h = start_viable profile begun p es h
  at_viable begun (Some x) p es h = by_flag (HasConsumedInLine profile begun x p es) (HasConsumedInPath profile begun x p es) (Viable (Snap profile) p) x.in_line h (line_viable profile begun x p es) (path_viable profile begun x p es)

  pub at_closed : (begun : List ℕ) (o : Option CurrentEntry) (p : List ℕ) (es : List EntryData) → HasConsumed profile begun o p es → Closed profile p es
  at_closed begun None p es h = start_closed profile begun p es h
  at_closed begun (Some x) p es h = by_flag (HasConsumedInLine profile begun x p es) (HasConsumedInPath profile begun x p es) (Closed profile p es) x.in_line h (line_closed profile begun x p es) (path_closed profile begun x p es)

  -- ---- A byte of a line

  pub line_state : (begun : List ℕ) (x : CurrentEntry) (p : List ℕ) (es : List EntryData) → x.in_line ≡ true → HasConsumed profile begun (Some x) p es → HasConsumedInLine profile begun x p es
  line_state begun x p es t h = MatchBool-at_true _ _ t h

  -- Bytes of a line that the reader took.
  pub line_taken : (begun : List ℕ) (x x' : CurrentEntry) (p : List ℕ) (es : List EntryData) (bs : List ℕ) →
      x.in_line ≡ true → HasConsumed profile begun (Some x) p es → Lacks 10 bs → x'.path.items ≡ x.path.items →
      x'.lines ≡ x.lines → x'.in_line ≡ true →
      ((k : ReadForm) (t : List ℕ) → Reads x.reader k t → Reads x'.reader k (t ++ bs)) → HasConsumed profile begun (Some x') (p ++ bs) es
  line_taken begun x x' p es bs t h n e c i r =
      let l = line_state begun x p es t h in
      at_true (HasConsumedInLine profile begun x' (p ++ bs) es) (HasConsumedInPath profile begun x' (p ++ bs) es) x'.in_line i (line_run profile begun x x' p es bs l n e c (r l.kind (unlines l.lines ++ l.line) l.reads))

  -- The rest of the line and its newline, which are the bytes.
  pub line_at_once : (begun : List ℕ) (x x' : CurrentEntry) (p : List ℕ) (es : List EntryData) (line bs : List ℕ) → bs ≡ line ++ 10 ∷ [] → x.in_line ≡ true →
      HasConsumed profile begun (Some x) p es → Lacks 10 line → x'.path.items ≡ x.path.items → x'.lines ≡ saturated (x.lines + 1) → x'.in_line ≡ false →
      ((k : ReadForm) (t : List ℕ) → Reads x.reader k t → Reads x'.reader k (t ++ (line ++ 10 ∷ []))) → HasConsumed profile begun (Some x') (p ++ bs) es
  line_at_once begun x x' p es line bs f t h n e c i r =
      let l = line_state begun x p es t h in
      at_false (HasConsumedInLine profile begun x' (p ++ bs) es) (HasConsumedInPath profile begun x' (p ++ bs) es) x'.in_line i (rw f (line_whole profile begun x x' p es line l n e c (r l.kind (unlines l.lines ++ l.line) l.reads)))

  pub line_refused : (begun : List ℕ) (x : CurrentEntry) (p : List ℕ) (es : List EntryData) (b : ℕ) → x.in_line ≡ true → HasConsumed profile begun (Some x) p es → ((k : ReadForm) (t : List ℕ) → Reads x.reader k t → Next (KindFile k) t b → ⊥) →
      (Next (Snap profile) p b → ⊥) × IsWhyAfter profile p b whys.Line
  line_refused begun x p es b t h r =
      let l = line_state begun x p es t h in
      (λ v. r l.kind (unlines l.lines ++ l.line) l.reads (line_takes profile begun x p es b l v), (x.path.items ++ 0 ∷ l.line, line_begun profile begun x p es l, (x.path.items, l.line, refl)))

  -- ---- The NUL of a path

  pub at_some : (begun : List ℕ) (o : Option CurrentEntry) (x : CurrentEntry) (p : List ℕ) (es : List EntryData) → o ≡ Some x → HasConsumed profile begun o p es → IsBetween o → HasConsumedInPath profile begun x p es × (x.in_line ≡ false)
  at_some begun o x p es e h b =
      let i : x.in_line ≡ false = subst IsBetween e b in
      (MatchBool-at_false _ _ i (subst (λ (q : Option CurrentEntry). HasConsumed profile begun q p es) e h), i)

  pub at_none : (begun : List ℕ) (o : Option CurrentEntry) (p : List ℕ) (es : List EntryData) → o ≡ None → HasConsumed profile begun o p es → HasConsumedAPath begun p es
  at_none begun o p es e h = subst (λ (q : Option CurrentEntry). HasConsumed profile begun q p es) e h

  pub no_more : (begun : List ℕ) (x : CurrentEntry) (p : List ℕ) (es : List EntryData) (k : ReadForm) →
      HasConsumedInPath profile begun x p es → IsOfKind profile begun k → begun ≡ x.path.items →
      ((k : ReadForm) (t : List ℕ) → Reads x.reader k t → TakesLine k t → ⊥) →
      (Next (Snap profile) p 0 → ⊥) × IsWhyAfter profile p 0 whys.NoMoreLines
  no_more begun x p es k h c s f =
      (λ v. f h.kind (unlines h.lines) h.reads (more_takes h.kind h.lines (same_nul profile begun x p es h s v)), (begun, path_begun profile begun x p es h, (bytes_no_nul begun h.begun_path, refl, c.0, (k, c.1))))

  -- A NUL after a path without a name, or after one that isn't read.
  pub no_name_refused : (begun : List ℕ) (o : Option CurrentEntry) (p : List ℕ) (es : List EntryData) → IsNameless begun → IsBetween o → HasConsumed profile begun o p es → (Next (Snap profile) p 0 → ⊥) × IsWhyAfter profile p 0 whys.NoName
  no_name_refused begun o p es c i h =
      let a = between begun o p es i h in
      let r = paths_begun begun o p es a in
      (λ v. path_named begun (paths_nul begun o p es a v).0 c, (begun, r.0, (bytes_no_nul begun r.1, refl, c)))

  pub not_readable_refused : (begun : List ℕ) (o : Option CurrentEntry) (p : List ℕ) (es : List EntryData) →
      (IsNameless begun → ⊥) → ReadsAt profile begun None → IsBetween o → HasConsumed profile begun o p es →
      (Next (Snap profile) p 0 → ⊥) × IsWhyAfter profile p 0 whys.NotReadable
  not_readable_refused begun o p es c n i h =
      let a = between begun o p es i h in
      let r = paths_begun begun o p es a in
      (λ v. let k = (paths_nul begun o p es a v).1 in reads_once profile begun k.0 n k.1, (begun, r.0, (bytes_no_nul begun r.1, refl, c, n)))

  pub newline_refused : (begun : List ℕ) (o : Option CurrentEntry) (p : List ℕ) (es : List EntryData) (b : ℕ) → b ≡ 10 → IsBetween o → HasConsumed profile begun o p es → (Next (Snap profile) p b → ⊥) × IsWhyAfter profile p b whys.PathByte
  newline_refused begun o p es b z i h =
      let a = between begun o p es i h in
      let r = paths_begun begun o p es a in
      (λ v. elim (paths_head begun o p es b a v) [ inl e ↦ absurd (omega (arith, z, e)) | inr q ↦ q.2 z ], (begun, r.0, (bytes_no_nul begun r.1, z)))

  -- Bytes of a path.
  pub paths_taken : (begun begun' : List ℕ) (o : Option CurrentEntry) (p : List ℕ) (es : List EntryData) (bs : List ℕ) → ArePathBytes bs → begun' ≡ begun ++ bs → IsBetween o → HasConsumed profile begun o p es → HasConsumed profile begun' o (p ++ bs) es
  paths_taken begun begun' o p es bs q e i h = back begun' o (p ++ bs) es i (paths_run begun begun' o p es bs q e (between begun o p es i h))

  pub path_byte_allowed : (begun : List ℕ) (o : Option CurrentEntry) (p : List ℕ) (es : List EntryData) (b : ℕ) → (b ≡ 0 → ⊥) → (b ≡ 10 → ⊥) → b < 256 → IsBetween o → HasConsumed profile begun o p es → Next (Snap profile) p b
  path_byte_allowed begun o p es b z n lt i h = paths_viable (begun ++ b ∷ []) o (p ++ b ∷ []) es (paths_run begun (begun ++ b ∷ []) o p es (b ∷ []) ((omega arith, lt, n), tt) refl (between begun o p es i h))

  -- The NUL of another path closes the present entry.
  pub next_given : (begun begun' : List ℕ) (x x' : CurrentEntry) (p : List ℕ) (es : List EntryData) (k : ReadForm) (o : Option EntryData) (h : HasConsumedInPath profile begun x p es) → begun' ≡ [] → x.path.items ≢ begun →
      x'.path.items ≡ begun → x'.lines ≡ 0 → x'.in_line ≡ true → IsOfKind profile begun k → Reads x'.reader k [] → MatchOption o ⊥ (λ e. (e.path ≡ x.path.items) × AreEntryLines profile e h.lines) →
      MatchOption o (HasConsumed profile begun' (Some x') (p ++ 0 ∷ []) es) (λ e. HasConsumed profile begun' (Some x') (p ++ 0 ∷ []) (es ++ e ∷ []))
  next_given begun begun' x x' p es k None h n d path lines i c r m = absurd m
  next_given begun begun' x x' p es k (Some e) h n d path lines i c r m =
      at_true (HasConsumedInLine profile begun' x' (p ++ 0 ∷ []) (es ++ e ∷ [])) (HasConsumedInPath profile begun' x' (p ++ 0 ∷ []) (es ++ e ∷ [])) x'.in_line i
      (next_path profile begun begun' x x' p es 0 k e h refl n d path lines (named_path begun h.begun_path c.0) c.1 r m.0 m.1)
