-- How snapshots are joined, and what a snapshot is that goes on from entries and whole records of one path.
use Rattle.std.proofs.Common.{◌≡◌, ◌≢◌, ℕ, List, [], ◌∷◌, ◌++◌, Some, refl, sym, ap, subst, ◌∙◌, append_assoc}
use Rattle.std.proofs.lemmas.List.{append-nil}
use Rattle.std.specs.List.{AllByRecursion}
use Rattle.cg_text.specs.Texts.{Lacks}
use Rattle.cg_value.specs.Entry.{EntryData, IsPath, ReadsAt}
use Rattle.cg_value.specs.EntryLaws.{entry_path}
use Rattle.cg_value.specs.Files.{ReadLines}
use Rattle.cg_value.specs.PathLaws.{path_lacks_nul}
use Rattle.cg_value.specs.Records.{records}
use Rattle.cg_value.specs.declared.kind.ReadForm.{ReadForm}
use Rattle.cg_value.specs.declared.profile.Profile.{Profile}
use Rattle.cg_file.specs.WeightFileLaws.{not_empty}
pub use Rattle.cg_line.specs.SplitLaws.{lines_first, unlines-append, unlines-push}
use Rattle.cg_snap.specs.Closed.{EndsOther}
use Rattle.cg_snap.specs.Snap.{AreEntryLines, SnapText, StartsOther}
use Rattle.cg_snap.specs.SnapLaws.{NotOf, cut, entry_starts, first_path, heads, lines_plain, not_of, one_form, record_then, records_first, rest_not_of}

-- ---- Lines and records, one after another

pub records-append : (q : List ℕ) (ls ms : List (List ℕ)) → records q (ls ++ ms) ≡ records q ls ++ records q ms
records-append q [] ms = refl
records-append q (l ∷ ls) ms = ap (λ (t : List ℕ). q ++ 0 ∷ (l ++ 10 ∷ t)) (records-append q ls ms) ∙ sym (record_then q l (records q ls) (records q ms))

-- ---- Entries after entries

-- The other entries, if there are any, begin with another path than that with which the first end.
abbrev pub Joins : List EntryData → List EntryData → Type 0
Joins es [] = Unit {0}
Joins es (f ∷ fs) = EndsOther es f.path

joins_tail : (e f : EntryData) (es gs : List EntryData) → Joins (e ∷ f ∷ es) gs → Joins (f ∷ es) gs
joins_tail e f es [] h = tt
joins_tail e f es (g ∷ gs) h = h

joins_start : (e : EntryData) (gs : List EntryData) → Joins (e ∷ []) gs → StartsOther e.path gs
joins_start e [] h = tt
joins_start e (g ∷ gs) h = λ p. h (sym p)

pub ends_push : (es : List EntryData) (e : EntryData) (q : List ℕ) → e.path ≢ q → EndsOther (es ++ e ∷ []) q
ends_push [] e q n = n
ends_push (f ∷ []) e q n = n
ends_push (f ∷ g ∷ es) e q n = ends_push (g ∷ es) e q n

ends_rest : (e : EntryData) (es : List EntryData) (q : List ℕ) → EndsOther (e ∷ es) q → EndsOther es q
ends_rest e [] q o = tt
ends_rest e (f ∷ es) q o = o

last_not : (e : EntryData) (es : List EntryData) (q u y : List ℕ) → IsPath q → EndsOther (e ∷ es) q → u ≡ q ++ 0 ∷ y → es ≡ [] → NotOf e.path u
last_not e [] q u y p o v z x w = o (cut 0 e.path q x y (path_lacks_nul e.path (entry_path e)) (path_lacks_nul q p) (sym w ∙ v)).0
last_not e (f ∷ es) q u y p o v z x w = absurd (cc)

-- How a snapshot of fs, which has the entries es first, goes on from whole records of the path q: by such records, those of one
-- entry, and by other entries.
pub record ContinuesEntry (profile : Profile) (es fs : List EntryData) (q : List ℕ) (kind : ReadForm) (ls : List (List ℕ)) (tail : List ℕ) : Type 0 where
  pub entry : EntryData
  pub more : List (List ℕ)
  pub others : List EntryData
  pub rest : List ℕ
  pub same : entry.path ≡ q
  pub entries : fs ≡ es ++ entry ∷ others
  pub plain : AllByRecursion (Lacks 10) more
  pub some : ls ++ more ≢ []
  pub file : ReadLines kind entry.value (ls ++ more)
  pub text : tail ≡ records q more ++ rest
  pub other : StartsOther q others
  pub snap : SnapText profile others rest

module _ (profile : Profile) where
  pub snap_append : (es fs : List EntryData) (s t : List ℕ) → SnapText profile es s → SnapText profile fs t → Joins es fs → SnapText profile (es ++ fs) (s ++ t)
  snap_append [] fs s t h g j = rw h g
  snap_append (e ∷ []) fs s t h g j = (h.0, t, h.2, joins_start e fs j, (rw (h.4, h.5) (append_assoc (records e.path h.0) [] t)), g)
  snap_append (e ∷ f ∷ es) fs s t h g j =
      (h.0, h.1 ++ t, h.2, h.3, rw h.4 (append_assoc (records e.path h.0) h.1 t), snap_append (f ∷ es) fs h.1 t h.5 g (joins_tail e f es fs j))

  -- One more entry at the end.
  pub snap_push : (es : List EntryData) (s : List ℕ) (e : EntryData) (ls : List (List ℕ)) → SnapText profile es s → AreEntryLines profile e ls → EndsOther es e.path → SnapText profile (es ++ e ∷ []) (s ++ records e.path ls)
  snap_push es s e ls h g j = snap_append es (e ∷ []) s (records e.path ls) h (ls, [], g, tt, sym (append-nil (records e.path ls)), refl) j

  pub push_at : (es : List EntryData) (s q : List ℕ) (e : EntryData) (ls : List (List ℕ)) → e.path ≡ q → SnapText profile es s → AreEntryLines profile e ls → EndsOther es q → SnapText profile (es ++ e ∷ []) (s ++ records q ls)
  push_at es s q e ls p h g j = subst (λ (t : List ℕ). SnapText profile (es ++ e ∷ []) (s ++ records t ls)) p (snap_push es s e ls h g (subst (EndsOther es) (sym p) j))

  -- After whole entries and a path that differs from the last, each reading has these entries first.
  pub strip : (es fs : List EntryData) (s u q y : List ℕ) → IsPath q → SnapText profile es s → EndsOther es q → u ≡ q ++ 0 ∷ y → SnapText profile fs (s ++ u) → (gs : List EntryData) × (fs ≡ es ++ gs) × SnapText profile gs u
  strip [] fs s u q y p h o v g = (fs, refl, rw h at g)
  strip (e ∷ es) [] s u q y p h o v g =
      let r = entry_starts e.path h.0 (h.1 ++ u) h.2.some in
      absurd (not_empty e.path r.0 0 (sym r.1 ∙ (sym (append_assoc (records e.path h.0) h.1 u) ∙ (ap (λ (t : List ℕ). t ++ u) (sym h.4) ∙ g))))
  strip (e ∷ es) (f ∷ fs) s u q y p h o v g =
      let n : NotOf e.path (h.1 ++ u) = rest_not_of profile e.path es h.1 u (entry_path e) h.3 h.5 (λ z. last_not e es q u y p o v z) in
      let t : records e.path h.0 ++ (h.1 ++ u) ≡ records f.path g.0 ++ g.1 = sym (append_assoc (records e.path h.0) h.1 u) ∙ (ap (λ (t : List ℕ). t ++ u) (sym h.4) ∙ g.4) in
      let c = heads profile e f h.0 g.0 (h.1 ++ u) g.1 h.2 g.2 n (not_of profile f.path fs g.1 (entry_path f) g.3 g.5) t in
      let r = strip es fs h.1 u q y p h.5 (ends_rest e es q o) v (subst (SnapText profile fs) (sym c.1) g.5) in
      let first = c.0 in
      let others = r.1 in
      (r.0, cc, r.2)

  inner_of : (es fs gs : List EntryData) (q : List ℕ) (kind : ReadForm) (ls : List (List ℕ)) (tail y : List ℕ) →
      IsPath q → ReadsAt profile q (Some kind) → AllByRecursion (Lacks 10) ls → records q ls ++ tail ≡ q ++ 0 ∷ y →
      fs ≡ es ++ gs → SnapText profile gs (records q ls ++ tail) → ContinuesEntry profile es fs q kind ls tail
  inner_of es fs [] q kind ls tail y p r a v e g = absurd (not_empty q y 0 (sym v ∙ g))
  inner_of es fs (f ∷ gs) q kind ls tail y p r a v e g =
      let same : f.path ≡ q = first_path q f.path g.0 g.1 y p (entry_path f) g.2.some (sym g.4 ∙ v) in
      let n : NotOf q g.1 = subst (λ (x : List ℕ). NotOf x g.1) same (not_of profile f.path gs g.1 (entry_path f) g.3 g.5) in
      let t : records q g.0 ++ g.1 ≡ records q ls ++ tail = subst (λ (x : List ℕ). records x g.0 ++ g.1 ≡ records q ls ++ tail) same (sym g.4) in
      let c = records_first q ls g.0 tail g.1 p a (lines_plain profile f g.0 g.2) n t in
      let k : g.2.kind ≡ kind = one_form profile q g.2.kind kind (subst (λ (x : List ℕ). ReadsAt profile x (Some g.2.kind)) same g.2.reads) r in
      record {
        entry = f;
        more = c.0;
        others = gs;
        rest = g.1;
        same = same;
        entries = e;
        plain = c.2;
        some = λ z. g.2.some (c.1 ∙ z);
        file = subst (λ (x : List (List ℕ)). ReadLines kind f.value x) c.1 (subst (λ (x : ReadForm). ReadLines x f.value g.0) k g.2.spelled);
        text = c.3;
        other = subst (λ (x : List ℕ). StartsOther x gs) same g.3;
        snap = g.5;
      }

  -- A snapshot that goes on from whole entries, and from whole records of q or the first that is begun.
  pub inner : (es fs : List EntryData) (s : List ℕ) (q : List ℕ) (kind : ReadForm) (ls : List (List ℕ))
      (tail y : List ℕ) → IsPath q → ReadsAt profile q (Some kind) → AllByRecursion (Lacks 10) ls →
      SnapText profile es s → EndsOther es q → records q ls ++ tail ≡ q ++ 0 ∷ y →
      SnapText profile fs (s ++ (records q ls ++ tail)) → ContinuesEntry profile es fs q kind ls tail
  inner es fs s q kind ls tail y p r a h o v g =
      let c = strip es fs s (records q ls ++ tail) q y p h o v g in
      inner_of es fs c.0 q kind ls tail y p r a v c.1 c.2
