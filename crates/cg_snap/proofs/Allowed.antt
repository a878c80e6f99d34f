-- Where a byte keeps a continuation.
use Rattle.std.proofs.Common.{◌≡◌, ◌≢◌, ℕ, List, [], ◌∷◌, ◌++◌, refl, sym, ap, subst, ◌∙◌, append_assoc, inl, inr, Option, Some, None, Result, Ok, Err}
use Rattle.std.specs.Prelude.{IfOk, MatchResult}
use Rattle.std.proofs.lemmas.List.{append-nil}
use Rattle.std.proofs.lemmas.Bool.{cases_eq}
use Rattle.cg_text.specs.Texts.{Lacks, Viable, Next}
use Rattle.cg_text.specs.TextsLaws.{lacks_push}
use Rattle.cg_value.specs.Entry.{EntryData, ReadsAt}
use Rattle.cg_value.specs.Files.{KindFile}
use Rattle.cg_value.specs.Lines.{unlines}
use Rattle.cg_value.specs.Records.{records}
use Rattle.cg_value.specs.declared.kind.ReadForm.{ReadForm}
use Rattle.cg_value.specs.declared.profile.Profile.{Profile}
use Rattle.cg_line.specs.Reads.{Reads}
use Rattle.cg_snap.specs.DecoderState.{HasConsumed, HasConsumedInLine, HasConsumedInPath, HasConsumedAPath, CanEndLine, IsBetween, IsClass, IsOfKind, IsOver, IsWhyAfter, RefusalIs, TakesMore}
use Rattle.cg_snap.specs.Snap.{Snap, SnapText}
use Rattle.cg_snap.specs.declared.present.CurrentEntry.{CurrentEntry}
use Rattle.cg_snap.specs.SnapStop.{IsNameless}
use Rattle.cg_snap.specs.declared.stop.Why.{Why}
use Rattle.cg_snap.specs.declared.stop.Why.TheVariants as whys
use Rattle.cg_snap.proofs.Closes.{line_begun}
use Rattle.cg_snap.proofs.Joins.{ends_push, push_at, records-append, snap_append, unlines-push}
use Rattle.cg_snap.proofs.Refusals.{line_takes}
use Rattle.cg_snap.proofs.States.{between, named_path, no_more, no_name_refused, not_readable_refused, path_named, takes_more}
use Rattle.cg_snap.proofs.Steps.{all_push, line_goes, line_run, line_text_viable, line_viable, lines_text_snap, one_record, present_entry, same_or_other, same_path, some_push}

-- ---- Within a line

line_text_end : (p g r q l : List ℕ) (b : ℕ) → b ≡ 10 → p ≡ g ++ (r ++ (q ++ 0 ∷ l)) → (p ++ b ∷ []) ++ [] ≡ g ++ (r ++ (q ++ 0 ∷ (l ++ 10 ∷ [])))
line_text_end p g r q l b e f = rw (e, f) (simp (append_assoc, append-nil))

line_text_more : (p g r q l : List ℕ) (b : ℕ) → p ≡ g ++ (r ++ (q ++ 0 ∷ l)) → p ++ b ∷ [] ≡ g ++ (r ++ (q ++ 0 ∷ (l ++ b ∷ [])))
line_text_more p g r q l b f = rw f (simp append_assoc)

file_more : (k : ReadForm) (u l : List ℕ) (b : ℕ) → Viable (KindFile k) ((u ++ l) ++ b ∷ []) → Viable (KindFile k) (u ++ (l ++ b ∷ []))
file_more k u l b v = rw append_assoc at v

start_text : (p q r : List ℕ) → p ≡ q → q ++ 0 ∷ r ≡ (p ++ 0 ∷ []) ++ r
start_text p q r e = rw e (simp append_assoc)

next_text : (p g r b t : List ℕ) → p ≡ g ++ (r ++ b) → (g ++ r) ++ (b ++ 0 ∷ t) ≡ (p ++ 0 ∷ []) ++ t
next_text p g r b t e = rw e (simp append_assoc)

module _ (profile : Profile) where
  pub line_allowed : (begun : List ℕ) (x : CurrentEntry) (p : List ℕ) (es : List EntryData) (b : ℕ) (h : HasConsumedInLine profile begun x p es) → Next (KindFile h.kind) (unlines h.lines ++ h.line) b → Next (Snap profile) p b
  line_allowed begun x p es b h v =
      elim (cases_eq b 10) [
        | inl e ↦
            let f : Viable (KindFile h.kind) (unlines (h.lines ++ h.line ∷ [])) =
            rw (unlines-push h.lines h.line)
            (subst (λ (c : ℕ). Viable (KindFile h.kind) (unlines h.lines ++ (h.line ++ c ∷ []))) e
            (file_more h.kind (unlines h.lines) h.line b v)) in
            let s = lines_text_snap profile es h.given x.path.items h.kind (h.lines ++ h.line ∷ []) h.entries h.other h.good h.reads_at (some_push h.lines h.line) (all_push (Lacks 10) h.lines h.line h.plain h.plain_line) f in
            record {
              rest = [];
              whole = subst (Snap profile) (ap (λ (t : List ℕ). h.given ++ t)
                  (records-append x.path.items h.lines (h.line ∷ []))
                  ∙ sym (line_text_end p h.given (records x.path.items h.lines) x.path.items h.line b e h.split)) s;
            }
        | inr n ↦
            line_text_viable profile es h.given x.path.items h.kind h.lines (h.line ++ b ∷ []) (p ++ b ∷ []) h.entries h.other h.good h.reads_at h.plain (lacks_push 10 h.line b h.plain_line n)
            (line_goes h.kind h.lines h.line b n h.plain_line h.plain (file_more h.kind (unlines h.lines) h.line b v)) (line_text_more p h.given (records x.path.items h.lines) x.path.items h.line b h.split)
      ]

  -- After more bytes of a line that the reader took: the state, and which byte goes on.
  module _ (begun : List ℕ) (x x' : CurrentEntry) (p : List ℕ) (es : List EntryData) (bs : List ℕ) (b : ℕ) (h : HasConsumedInLine profile begun x p es) (n : Lacks 10 bs) (e : x'.path.items ≡ x.path.items)
      (c : x'.lines ≡ x.lines) (r : Reads x'.reader h.kind ((unlines h.lines ++ h.line) ++ bs)) where
    same_text : (unlines h.lines ++ h.line) ++ bs ≡ unlines h.lines ++ (h.line ++ bs)
    same_text = append_assoc (unlines h.lines) h.line bs

    pub line_refused_on : (Next (KindFile h.kind) ((unlines h.lines ++ h.line) ++ bs) b → ⊥) → (Next (Snap profile) (p ++ bs) b → ⊥) × IsWhyAfter profile (p ++ bs) b whys.Line
    line_refused_on none =
        let l = line_run profile begun x x' p es bs h n e c r in
        (λ v. none (subst (λ (t : List ℕ). Next (KindFile h.kind) t b) (sym same_text) (line_takes profile begun x' (p ++ bs) es b l v)), (x'.path.items ++ 0 ∷ l.line, line_begun profile begun x' (p ++ bs) es l, (x'.path.items, l.line, refl)))

    pub line_next_on : Next (KindFile h.kind) ((unlines h.lines ++ h.line) ++ bs) b → Next (Snap profile) (p ++ bs) b
    line_next_on v =
        let l = line_run profile begun x x' p es bs h n e c r in
        line_allowed begun x' (p ++ bs) es b l (subst (λ (t : List ℕ). Next (KindFile h.kind) t b) same_text v)

  -- ---- After a path

  pub start_nul_allowed : (begun p : List ℕ) (es : List EntryData) (k : ReadForm) → IsOfKind profile begun k → HasConsumedAPath begun p es → Next (Snap profile) p 0
  start_nul_allowed begun p es k c h =
      let r = one_record profile begun k (named_path begun h.begun_path c.0) c.1 in
      record { rest = r.0; whole = (r.1 ∷ [], subst (SnapText profile (r.1 ∷ [])) (start_text p begun r.0 h.bytes) r.3) }

  pub next_nul_allowed : (begun : List ℕ) (x : CurrentEntry) (p : List ℕ) (es : List EntryData) (k : ReadForm) → IsOfKind profile begun k → x.path.items ≢ begun → HasConsumedInPath profile begun x p es → Next (Snap profile) p 0
  next_nul_allowed begun x p es k c n h =
      let r = one_record profile begun k (named_path begun h.begun_path c.0) c.1 in
      let e = present_entry profile begun x p es h in
      let front = push_at profile es h.given x.path.items e.0 h.lines e.1 h.entries e.2 h.other in
      let whole = snap_append profile (es ++ e.0 ∷ []) (r.1 ∷ []) (h.given ++ records x.path.items h.lines) (begun ++ 0 ∷ r.0) front r.3 (ends_push es e.0 r.1.path (λ z. n (sym e.1 ∙ z ∙ r.2))) in
      record { rest = r.0; whole = ((es ++ e.0 ∷ []) ++ r.1 ∷ [], subst (SnapText profile ((es ++ e.0 ∷ []) ++ r.1 ∷ [])) (next_text p h.given (records x.path.items h.lines) begun r.0 h.split) whole) }

  pub same_nul_allowed : (begun : List ℕ) (x : CurrentEntry) (p : List ℕ) (es : List EntryData) (h : HasConsumedInPath profile begun x p es) → begun ≡ x.path.items → CanEndLine h.kind h.lines [] → Next (Snap profile) p 0
  same_nul_allowed begun x p es h e g = line_viable profile [] x (p ++ 0 ∷ []) es (same_path profile begun [] x x p es 0 h refl refl e refl refl h.reads g)

  -- ---- What a path names

  -- A NUL after the path of the present entry, whose file takes no further line.
  pub over_refused : (begun : List ℕ) (o : Option CurrentEntry) (p : List ℕ) (es : List EntryData) → IsOver begun o → IsBetween o → HasConsumed profile begun o p es → RefusalIs profile p 0 (Some whys.NoMoreLines)
  over_refused begun None p es f i h = absurd f
  over_refused begun (Some x) p es f i h =
      let a = between profile begun (Some x) p es i h in
      no_more profile begun x p es a.kind a ((λ n. path_named x.path.items a.good (subst IsNameless (sym f.0) n)), subst (λ (q : List ℕ). ReadsAt profile q (Some a.kind)) f.0 a.reads_at) (sym f.0) f.1

  -- A NUL after a path that names a file that can be read.
  pub nul_next : (begun : List ℕ) (o : Option CurrentEntry) (p : List ℕ) (es : List EntryData) (k : ReadForm) → IsOfKind profile begun k → TakesMore begun o → IsBetween o → HasConsumed profile begun o p es → Next (Snap profile) p 0
  nul_next begun None p es k c t i h = start_nul_allowed begun p es k c h
  nul_next begun (Some x) p es k c t i h =
      let a = between profile begun (Some x) p es i h in
      elim (same_or_other x.path.items begun) [
        | inl e ↦ same_nul_allowed begun x p es a (sym e) (takes_more a.kind a.lines (t e a.kind (unlines a.lines) a.reads))
        | inr n ↦ next_nul_allowed begun x p es k c n a
      ]

  pub class_after : (begun : List ℕ) (o : Option CurrentEntry) (p : List ℕ) (es : List EntryData) (r : Result ReadForm Why) → IsClass profile begun r → TakesMore begun o → IsBetween o → HasConsumed profile begun o p es →
      MatchResult r (λ kind. IsOfKind profile begun kind × Next (Snap profile) p 0) (λ why. RefusalIs profile p 0 (Some why))
  class_after begun o p es (Ok kind) c t i h = (c, nul_next begun o p es kind c t i h)
  class_after begun o p es (Err whys.PathByte) c t i h = absurd c
  class_after begun o p es (Err whys.NoName) c t i h = no_name_refused profile begun o p es c i h
  class_after begun o p es (Err whys.NotReadable) c t i h = not_readable_refused profile begun o p es c.0 c.1 i h
  class_after begun o p es (Err whys.NotWritable) c t i h = absurd c
  class_after begun o p es (Err whys.NoMoreLines) c t i h = absurd c
  class_after begun o p es (Err whys.Line) c t i h = absurd c

  pub class_kind : (begun : List ℕ) (r : Result ReadForm Why) → IsClass profile begun r → IfOk r (λ kind. IsOfKind profile begun kind)
  class_kind begun (Ok kind) c = c
  class_kind begun (Err why) c = tt
