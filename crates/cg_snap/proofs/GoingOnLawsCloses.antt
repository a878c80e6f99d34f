-- Bytes with which a snapshot begins close some entries.
use Rattle.std.proofs.Common.{◌≡◌, ℕ, ◌⊎◌, inl, inr, List, [], ◌∷◌, ◌++◌, refl, sym, ap, subst, ◌∙◌, append_assoc}
use Rattle.std.proofs.lemmas.Bool.{cases_eq}
use Rattle.std.proofs.lemmas.List.{append-nil}
use Rattle.std.specs.List.{AllByRecursion}
use Rattle.cg_text.specs.Texts.{Lacks, Viable}
use Rattle.cg_text.specs.TextsLaws.{lacks_both}
use Rattle.cg_value.specs.Entry.{EntryData, IsPath}
use Rattle.cg_value.specs.EntryLaws.{entry_path}
use Rattle.cg_value.specs.PathLaws.{path_lacks_newline, path_lacks_nul}
use Rattle.cg_value.specs.Records.{records}
use Rattle.cg_value.specs.declared.profile.Profile.{Profile}
use Rattle.cg_snap.specs.Closed.{AreOfPath, Closed, EndsOther}
use Rattle.cg_snap.specs.Snap.{AreEntryLines, Snap, SnapText, StartsOther}
use Rattle.cg_snap.specs.SnapLaws.{NotOf, entry_starts, lines_plain, not_of}
use Rattle.cg_snap.proofs.Closes.{start_closed}
use Rattle.cg_snap.proofs.GoingOnLawsBlocks.{HasLast, append_empty, cut_twice, lacks_front, last_in, push_some}
use Rattle.cg_snap.proofs.GoingOnLawsCarry.{IsAt, IsPlace, place_in}
use Rattle.cg_snap.proofs.Refusals.{line_start, records_start}
use Rattle.cg_snap.proofs.Steps.{all_push, some_push}
use Rattle.cg_snap.proofs.Joins.{records-append}

-- ---- The front of whole records of a path

nothing_of : (q : List ℕ) → AreOfPath q []
nothing_of q = record { lines = []; begun = []; split = refl; plain = tt; last = inl (tt, tt) }

line_end : (r q l : List ℕ) (b : ℕ) → b ≡ 10 → (r ++ (q ++ 0 ∷ l)) ++ b ∷ [] ≡ (r ++ (q ++ 0 ∷ (l ++ 10 ∷ []))) ++ []
line_end r q l b e = rw e (simp (append_assoc, append-nil))

place_of_path : (q p : List ℕ) (b : ℕ) → IsPath q → IsPlace q p b → AreOfPath q (p ++ b ∷ [])
place_of_path q p b g w = of w.at
  where
    text : (x : List ℕ) → w.begun ++ b ∷ [] ≡ x → p ++ b ∷ [] ≡ records q w.lines ++ x
    text x e = ap (λ (t : List ℕ). t ++ b ∷ []) w.split ∙ (append_assoc (records q w.lines) w.begun (b ∷ []) ∙ ap (λ (t : List ℕ). records q w.lines ++ t) e)

    of : IsAt q w.begun b → AreOfPath q (p ++ b ∷ [])
    of (inl d) =
        let whole : q ≡ (w.begun ++ b ∷ []) ++ d.0 = d.1 ∙ sym (append_assoc w.begun (b ∷ []) d.0) in
        record {
          lines = w.lines;
          begun = w.begun ++ b ∷ [];
          split = text (w.begun ++ b ∷ []) refl;
          plain = w.plain;
          last = inl (lacks_front 0 (w.begun ++ b ∷ []) d.0 (subst (Lacks 0) whole (path_lacks_nul q g)), lacks_front 10 (w.begun ++ b ∷ []) d.0 (subst (Lacks 10) whole (path_lacks_newline q g)));
        }
    of (inr (inl s)) = record {
      lines = w.lines;
      begun = w.begun ++ b ∷ [];
      split = text (w.begun ++ b ∷ []) refl;
      plain = w.plain;
      last = inr ([], tt, rw (s.0, s.1) refl);
    }
    of (inr (inr l)) = elim (cases_eq b 10) [
      | inl e ↦ record {
        lines = w.lines ++ l.0 ∷ [];
        begun = [];
        split = ap (λ (t : List ℕ). t ++ b ∷ []) (w.split ∙ ap (λ (t : List ℕ). records q w.lines ++ t) l.2) ∙ (line_end (records q w.lines) q l.0 b e ∙ ap (λ (t : List ℕ). t ++ []) (sym (records-append q w.lines (l.0 ∷ []))));
        plain = all_push (Lacks 10) w.lines l.0 w.plain l.1;
        last = inl (tt, tt);
      }
      | inr n ↦ record {
        lines = w.lines;
        begun = w.begun ++ b ∷ [];
        split = text (w.begun ++ b ∷ []) refl;
        plain = w.plain;
        last = inr (l.0 ++ b ∷ [], lacks_both 10 l.0 (b ∷ []) l.1 (n, tt), ap (λ (t : List ℕ). t ++ b ∷ []) l.2 ∙ append_assoc q (0 ∷ l.0) (b ∷ []));
      }
    ]

front_of_path : (q : List ℕ) (lines : List (List ℕ)) (p x : List ℕ) → IsPath q → AllByRecursion (Lacks 10) lines → records q lines ≡ p ++ x → AreOfPath q p
front_of_path q lines p x g a e = elim (last_in p) [
  | inl z ↦ subst (AreOfPath q) (sym z) (nothing_of q)
  | inr w ↦
      let text : records q lines ++ [] ≡ w.0 ++ w.1 ∷ x = append-nil (records q lines) ∙ (e ∙ (ap (λ (t : List ℕ). t ++ x) w.2 ∙ append_assoc w.0 (w.1 ∷ []) x)) in
      subst (AreOfPath q) (sym w.2) (place_of_path q w.0 w.1 g (place_in q lines [] w.0 w.1 x a (inl refl) text))
]

-- What came of a record of the path behind whole ones.
abbrev pub EndsOfPath : List ℕ → List ℕ → Type 0
EndsOfPath path begun = (Lacks 0 begun × Lacks 10 begun) ⊎ ((line : List ℕ) × Lacks 10 line × (begun ≡ path ++ 0 ∷ line))

module _ (profile : Profile) where
  -- ---- One entry more in front

  starts_other : (q : List ℕ) (es : List EntryData) (g u : List ℕ) → SnapText profile es g → NotOf q (g ++ u) → StartsOther q es
  starts_other q [] g u h n = tt
  starts_other q (e ∷ es) g u h n = λ z.
      let s = entry_starts e.path h.0 (h.1 ++ u) h.2.some in
      n s.0 (ap (λ (t : List ℕ). t ++ u) h.4 ∙ (append_assoc (records e.path h.0) h.1 u ∙ (s.1 ∙ ap (λ (t : List ℕ). t ++ 0 ∷ s.0) z)))

  ends_more : (e : EntryData) (es : List EntryData) (q g u back : List ℕ) → SnapText profile es g → NotOf e.path (g ++ u) → u ≡ q ++ 0 ∷ back →
      EndsOther es q → EndsOther (e ∷ es) q
  ends_more e [] q g u back h n s o = λ z. n back (ap (λ (t : List ℕ). t ++ u) h ∙ (s ∙ ap (λ (t : List ℕ). t ++ 0 ∷ back) (sym z)))
  ends_more e (f ∷ es) q g u back h n s o = o

  not_front : (q t rest : List ℕ) → NotOf q (t ++ rest) → NotOf q t
  not_front q t rest n back e = n (back ++ rest) (ap (λ (x : List ℕ). x ++ rest) e ∙ append_assoc q (0 ∷ back) rest)

  -- After an entry come bytes that close others, and aren't of its path.
  more_closed : (e : EntryData) (lines : List (List ℕ)) (p : List ℕ) (es : List EntryData) → AreEntryLines profile e lines → NotOf e.path p →
      Closed profile p es → (fs : List EntryData) × Closed profile (records e.path lines ++ p) fs
  more_closed e lines p es a n c = of c.of_path.last (last_in c.of_path.lines) (last_in es)
    where
      other : NotOf e.path (c.given ++ c.present)
      other back s = n back (c.split ∙ s)

      -- The NUL of the path came.
      named : (back : List ℕ) → c.present ≡ c.path ++ 0 ∷ back → (fs : List EntryData) × Closed profile (records e.path lines ++ p) fs
      named back s = (
        e ∷ es,
        record {
          given = records e.path lines ++ c.given;
          present = c.present;
          path = c.path;
          split = ap (λ (t : List ℕ). records e.path lines ++ t) c.split ∙ sym (append_assoc (records e.path lines) c.given c.present);
          entries = (lines, c.given, a, starts_other e.path es c.given c.present c.entries other, refl, c.entries);
          good = c.good;
          of_path = c.of_path;
          begun = λ z. (back, s);
          other = ends_more e es c.path c.given c.present back c.entries other s c.other;
        },
      )

      of : EndsOfPath c.path c.of_path.begun →
          HasLast c.of_path.lines →
          HasLast es → (fs : List EntryData) × Closed profile (records e.path lines ++ p) fs
      of (inr l) m k =
          let s = line_start c.path c.of_path.lines l.0 in
          named s.0 (c.of_path.split ∙ (ap (λ (t : List ℕ). records c.path c.of_path.lines ++ t) l.2 ∙ s.1))
      of (inl l) (inr m) k =
          let s = records_start c.path c.of_path.lines c.of_path.begun (λ z. some_push m.0 m.1 (sym m.2 ∙ z)) in
          named s.0 (c.of_path.split ∙ s.1)
      of (inl l) (inl z) (inr k) = let s = c.begun (λ y. push_some k.0 k.1 (sym k.2 ∙ y)) in named s.0 s.1
      of (inl l) (inl z) (inl y) =
          let given : c.given ≡ [] = subst (λ (t : List EntryData). SnapText profile t c.given) y c.entries in
          let s : p ≡ c.of_path.begun = c.split ∙ (ap (λ (t : List ℕ). t ++ c.present) given ∙ (c.of_path.split ∙ ap (λ (t : List (List ℕ)). records c.path t ++ c.of_path.begun) z)) in (
            [],
            record {
              given = [];
              present = records e.path lines ++ p;
              path = e.path;
              split = refl;
              entries = refl;
              good = entry_path e;
              of_path = record { lines = lines; begun = c.of_path.begun; split = ap (λ (t : List ℕ). records e.path lines ++ t) s; plain = lines_plain profile e lines a; last = inl l };
              begun = λ n. absurd (n refl);
              other = tt;
            },
          )

  front_closed : (fs : List EntryData) (p rest : List ℕ) → SnapText profile fs (p ++ rest) → (es : List EntryData) × Closed profile p es
  front_closed [] p rest h = ([], subst (λ (t : List ℕ). Closed profile t []) (sym (append_empty p rest h).0) (start_closed profile [] [] [] (record { none = refl; bytes = refl; begun_path = tt })))
  front_closed (f ∷ fs) p rest h = elim (cut_twice p rest (records f.path h.0) h.1 h.4) [
    | inl m ↦ (
      [],
      record {
        given = [];
        present = p;
        path = f.path;
        split = refl;
        entries = refl;
        good = entry_path f;
        of_path = front_of_path f.path h.0 p m.0 (entry_path f) (lines_plain profile f h.0 h.2) m.1;
        begun = λ n. absurd (n refl);
        other = tt;
      },
    )
    | inr m ↦
        let behind : SnapText profile fs (m.0 ++ rest) = subst (SnapText profile fs) m.2 h.5 in
        let c = front_closed fs m.0 rest behind in
        let n : NotOf f.path m.0 = not_front f.path m.0 rest (not_of profile f.path fs (m.0 ++ rest) (entry_path f) h.3 behind) in
        let r = more_closed f h.0 m.0 c.0 h.2 n c.1 in
        (r.0, subst (λ (t : List ℕ). Closed profile t r.0) (sym m.1) r.1)
  ]

  pub viable_closes : (p : List ℕ) → Viable (Snap profile) p → (es : List EntryData) × Closed profile p es
  viable_closes p v = front_closed v.whole.0 p v.rest v.whole.1
