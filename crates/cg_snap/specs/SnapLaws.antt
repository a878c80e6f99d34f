-- What holds of snapshots: how a text is cut into entries, and that it has one list of them.
use Rattle.std.proofs.Common.{◌≡◌, ◌≢◌, ℕ, List, [], ◌∷◌, ◌++◌, Some, inl, inr, refl, sym, ap, subst, ◌∙◌, append_assoc}
use Rattle.std.proofs.lemmas.List.{append-nil}
use Rattle.std.specs.List.{AllByRecursion}
use Rattle.cg_text.specs.Texts.{Lacks}
use Rattle.cg_value.specs.Entry.{EntryData, IsPath, ReadsAt}
use Rattle.cg_value.specs.EntryLaws.{entry_path, same_entry}
use Rattle.cg_value.specs.Files.{ReadLines}
use Rattle.cg_value.specs.LineLaws.{plain_lines}
use Rattle.cg_value.specs.Lines.{unlines}
use Rattle.cg_value.specs.PathLaws.{path_lacks_nul}
use Rattle.cg_value.specs.Print.{print_lines}
use Rattle.cg_value.specs.PrintLaws.{one_text}
use Rattle.cg_value.specs.Records.{records}
use Rattle.cg_value.specs.TableLaws.{read_form_ok}
use Rattle.cg_value.specs.declared.kind.ReadForm.{ReadForm}
use Rattle.cg_value.specs.declared.profile.Profile.{Profile}
use Rattle.cg_file.specs.OneValueLaws.{one_value}
use Rattle.cg_file.specs.WeightFileLaws.{not_empty}
pub use Rattle.cg_line.specs.MadeLaws.{one_form, one_name}
pub use Rattle.cg_line.specs.SplitLaws.{EndsBy, cut, one_back}
use Rattle.cg_snap.specs.Laws.{print_entries}
use Rattle.cg_snap.specs.Snap.{AreEntryLines, SnapText, StartsOther}

-- ---- Lines

pub lines_plain : (profile : Profile) (e : EntryData) (lines : List (List ℕ)) → AreEntryLines profile e lines → AllByRecursion (Lacks 10) lines
lines_plain profile e lines a = plain_lines a.kind e.value lines a.spelled

-- ---- Records

-- A record, and then other bytes.
pub record_then : (path line back more : List ℕ) → (path ++ 0 ∷ (line ++ 10 ∷ back)) ++ more ≡ path ++ 0 ∷ (line ++ 10 ∷ (back ++ more))
record_then path line back more =
    append_assoc path (0 ∷ (line ++ 10 ∷ back)) more ∙ ap (λ (t : List ℕ). path ++ 0 ∷ t) (append_assoc line (10 ∷ back) more)

-- The bytes don't begin with a record of the path.
abbrev pub NotOf : List ℕ → List ℕ → Type 0
NotOf path bytes = (back : List ℕ) → bytes ≡ path ++ 0 ∷ back → ⊥

-- The records of an entry begin with its path.
pub entry_starts : (path : List ℕ) (lines : List (List ℕ)) (w : List ℕ) → lines ≢ [] → (back : List ℕ) × (records path lines ++ w ≡ path ++ 0 ∷ back)
entry_starts path [] w some = absurd (some refl)
entry_starts path (l ∷ lines) w some = (l ++ 10 ∷ (records path lines ++ w), record_then path l (records path lines) w)

pub not_of : (profile : Profile) (q : List ℕ) (es : List EntryData) (w : List ℕ) → IsPath q → StartsOther q es → SnapText profile es w → NotOf q w
not_of profile q [] w p o s y e = not_empty q y 0 (sym e ∙ s)
not_of profile q (f ∷ es) w p o s y e =
    let r = entry_starts f.path s.0 s.1 s.2.some in
    o (cut 0 f.path q r.0 y (path_lacks_nul f.path (entry_path f)) (path_lacks_nul q p) (sym r.1 ∙ (sym s.4 ∙ e))).0

-- Records of one path at the front of a text are its first records.
pub records_first : (q : List ℕ) (ls ms : List (List ℕ)) (x w : List ℕ) → IsPath q → AllByRecursion (Lacks 10) ls → AllByRecursion (Lacks 10) ms → NotOf q w →
    records q ms ++ w ≡ records q ls ++ x → (ns : List (List ℕ)) × (ms ≡ ls ++ ns) × AllByRecursion (Lacks 10) ns × (x ≡ records q ns ++ w)
records_first q [] ms x w p a b n e = (ms, refl, b, sym e)
records_first q (l ∷ ls) [] x w p a b n e = absurd (n (l ++ 10 ∷ (records q ls ++ x)) (e ∙ record_then q l (records q ls) x))
records_first q (l ∷ ls) (m ∷ ms) x w p a b n e =
    let nul = path_lacks_nul q p in
    let c = cut 0 q q (m ++ 10 ∷ (records q ms ++ w)) (l ++ 10 ∷ (records q ls ++ x)) nul nul (sym (record_then q m (records q ms) w) ∙ (e ∙ record_then q l (records q ls) x)) in
    let d = cut 10 m l (records q ms ++ w) (records q ls ++ x) b.0 a.0 c.1 in
    let r = records_first q ls ms x w p a.1 b.1 n d.1 in
    let line = d.0 in
    let lines = r.1 in
    (r.0, cc, r.2, r.3)

-- The path of the first record.
pub first_path : (q f : List ℕ) (ms : List (List ℕ)) (w y : List ℕ) → IsPath q → IsPath f → ms ≢ [] → records f ms ++ w ≡ q ++ 0 ∷ y → f ≡ q
first_path q f [] w y p r some e = absurd (some refl)
first_path q f (m ∷ ms) w y p r some e =
    (cut 0 f q (m ++ 10 ∷ (records f ms ++ w)) y (path_lacks_nul f r) (path_lacks_nul q p) (sym (record_then f m (records f ms) w) ∙ e)).0

-- ---- Entries

-- One path and one list of lines are those of one entry.
pub one_entry : (profile : Profile) (e f : EntryData) (ls ms : List (List ℕ)) → AreEntryLines profile e ls → AreEntryLines profile f ms → e.path ≡ f.path → ls ≡ ms → e ≡ f
one_entry profile e f ls ms a b p l =
    let k : a.kind ≡ b.kind = one_form profile f.path a.kind b.kind (subst (λ path. ReadsAt profile path (Some a.kind)) p a.reads) b.reads in
    let spelled : ReadLines b.kind e.value ms = subst (λ (x : ReadForm × List (List ℕ)). ReadLines x.0 e.value x.1) (let h : (a.kind, ls) ≡ (b.kind, ms) = cc in h) a.spelled in
    same_entry e f p (one_value b.kind (unlines ms) e.value f.value (record { lines = ms; spelled = spelled; text_is = refl }) (record { lines = ms; spelled = b.spelled; text_is = refl }))

-- What comes after an entry begins with no record of its path.
pub rest_not_of : (profile : Profile) (q : List ℕ) (es : List EntryData) (s u : List ℕ) → IsPath q → StartsOther q es → SnapText profile es s → (es ≡ [] → NotOf q u) → NotOf q (s ++ u)
rest_not_of profile q [] s u p o h n y e = n refl y (ap (λ (t : List ℕ). t ++ u) (sym h) ∙ e)
rest_not_of profile q (f ∷ es) s u p o h n y e =
    let r = entry_starts f.path h.0 (h.1 ++ u) h.2.some in
    let w : s ++ u ≡ records f.path h.0 ++ (h.1 ++ u) = rw h.4 (append_assoc (records f.path h.0) h.1 u) in
    o (cut 0 f.path q r.0 y (path_lacks_nul f.path (entry_path f)) (path_lacks_nul q p) (sym r.1 ∙ (sym w ∙ e))).0

lines_end : (path : List ℕ) (ls ms ns : List (List ℕ)) (x w : List ℕ) → NotOf path w → ls ≡ ms ++ ns → w ≡ records path ns ++ x → (ls ≡ ms) × (x ≡ w)
lines_end path ls ms [] x w m l r = (l ∙ append-nil ms, sym r)
lines_end path ls ms (n ∷ ns) x w m l r = absurd (m (n ++ 10 ∷ (records path ns ++ x)) (r ∙ record_then path n (records path ns) x))

-- Two readings of one text, of whatever profiles, have the same first path, the same lines of it, and the same rest.
pub heads_lines : (e f : EntryData) (ls ms : List (List ℕ)) (x w : List ℕ) → AllByRecursion (Lacks 10) ls → AllByRecursion (Lacks 10) ms → ls ≢ [] → ms ≢ [] → NotOf e.path x → NotOf f.path w →
    records e.path ls ++ x ≡ records f.path ms ++ w → (e.path ≡ f.path) × (ls ≡ ms) × (x ≡ w)
heads_lines e f ls ms x w a b c d n m t =
    let r = entry_starts f.path ms w d in
    let p : e.path ≡ f.path = first_path f.path e.path ls x r.0 (entry_path f) (entry_path e) c (t ∙ r.1) in
    let same : records f.path ls ++ x ≡ records f.path ms ++ w = subst (λ q. records q ls ++ x ≡ records f.path ms ++ w) p t in
    let other : NotOf f.path x = subst (λ (q : List ℕ). NotOf q x) p n in
    let g = records_first f.path ms ls w x (entry_path f) b a other same in
    let i = lines_end f.path ls ms g.0 x w m g.1 g.3 in
    (p, i.0, i.1)

-- Two readings of one text have the same first entry, and the same rest.
pub heads : (profile : Profile) (e f : EntryData) (ls ms : List (List ℕ)) (x w : List ℕ) → AreEntryLines profile e ls → AreEntryLines profile f ms → NotOf e.path x → NotOf f.path w →
    records e.path ls ++ x ≡ records f.path ms ++ w → (e ≡ f) × (x ≡ w)
heads profile e f ls ms x w a b n m t =
    let s = heads_lines e f ls ms x w (lines_plain profile e ls a) (lines_plain profile f ms b) a.some b.some n m t in
    (one_entry profile e f ls ms a b s.0 s.1, s.2)

both_same : (e f : EntryData) (es fs : List EntryData) → e ≡ f → es ≡ fs → e ∷ es ≡ f ∷ fs
both_same e f es fs p q = cc

-- No text has two lists of entries.
pub one_list : (profile : Profile) (es fs : List EntryData) (text : List ℕ) → SnapText profile es text → SnapText profile fs text → es ≡ fs
one_list profile [] [] t h g = refl
one_list profile [] (f ∷ fs) t h g = let r = entry_starts f.path g.0 g.1 g.2.some in absurd (not_empty f.path r.0 0 (sym r.1 ∙ (sym g.4 ∙ h)))
one_list profile (e ∷ es) [] t h g = let r = entry_starts e.path h.0 h.1 h.2.some in absurd (not_empty e.path r.0 0 (sym r.1 ∙ (sym h.4 ∙ g)))
one_list profile (e ∷ es) (f ∷ fs) t h g =
    let s = heads profile e f h.0 g.0 h.1 g.1 h.2 g.2 (not_of profile e.path es h.1 (entry_path e) h.3 h.5) (not_of profile f.path fs g.1 (entry_path f) g.3 g.5) (sym h.4 ∙ g.4) in
    both_same e f es fs s.0 (one_list profile es fs g.1 (subst (SnapText profile es) s.1 h.5) g.5)

-- The lines of an entry are those of its canonical text.
pub printed_lines : (profile : Profile) (e : EntryData) (lines : List (List ℕ)) → AreEntryLines profile e lines → lines ≡ print_lines e.value
printed_lines profile e lines a = elim (one_text a.kind e.value lines (read_form_ok profile a.reads.name a.kind a.reads.form_is) a.spelled) [
  | inl same ↦ same
  | inr none ↦ absurd (a.some none.no_lines)
]

-- A snapshot is its entries printed.
pub snap_is_print : (profile : Profile) (es : List EntryData) (text : List ℕ) → SnapText profile es text → text ≡ print_entries es
snap_is_print profile [] text h = h
snap_is_print profile (e ∷ es) text h =
    h.4 ∙ ap (λ lines. records e.path lines ++ h.1) (printed_lines profile e h.0 h.2) ∙ ap (λ rest. records e.path (print_lines e.value) ++ rest) (snap_is_print profile es h.1 h.5)
