-- What a decoder stands for after one more byte, and that each state can be completed.
use Rattle.std.proofs.Common.{◌≡◌, ◌≢◌, ℕ, suc, zero, ◌+◌, ◌<◌, Some, List, [], ◌∷◌, ◌++◌, length, All, refl, sym, ap, subst, ◌∙◌, append_assoc, arith, inl, inr, ◌⊎◌}
use Rattle.std.specs.List.{AllByRecursion}
use Rattle.std.proofs.lemmas.List.{append-nil, length_push}
use Rattle.std.proofs.lemmas.Bool.{cases_eq}
use Rattle.cg_text.specs.ListFacts.{push_one}
use Rattle.cg_text.specs.Texts.{Lacks, Viable}
use Rattle.cg_text.specs.TextsLaws.{lacks_both}
use Rattle.cg_text.specs.Token.{saturated}
use Rattle.cg_value.specs.Entry.{EntryData, IsEntry, IsPath, IsPathByte, ReadsAt}
use Rattle.cg_value.specs.Files.{KindFile, ReadLines}
use Rattle.cg_value.specs.FirstLineLaws.{first_value}
use Rattle.cg_value.specs.LineLaws.{plain_lines}
use Rattle.cg_value.specs.Lines.{unlines}
use Rattle.cg_value.specs.Path.{IsNameOf}
use Rattle.cg_value.specs.Records.{records}
use Rattle.cg_value.specs.Table.{read_form_of}
use Rattle.cg_value.specs.TableLaws.{read_form_ok}
use Rattle.cg_value.specs.WholeLinesLaws.{can_end}
use Rattle.cg_value.specs.declared.kind.ReadForm.{ReadForm}
use Rattle.cg_value.specs.declared.kind.ReadForm.TheVariants as form
use Rattle.cg_value.specs.declared.profile.Profile.{Profile}
use Rattle.cg_value.specs.declared.profile.Profile.TheVariants.{One, Two, Kernel}
use Rattle.cg_value.specs.declared.value.Value.{Value}
use Rattle.cg_file.specs.WeightFileLaws.{not_empty}
use Rattle.cg_line.specs.MadeLaws.{printed_some}
use Rattle.cg_line.specs.Reads.{Reads, reads_viable}
use Rattle.cg_line.specs.SplitLaws.{lines_spell}
use Rattle.cg_snap.specs.Closed.{EndsOther}
use Rattle.cg_snap.specs.DecoderState.{HasConsumedInLine, HasConsumedInPath, HasConsumedAPath, CanEndLine}
use Rattle.cg_snap.specs.PathBytes.{ArePathBytes}
use Rattle.cg_snap.specs.Snap.{AreEntryLines, Snap, SnapText}
use Rattle.cg_snap.specs.declared.present.CurrentEntry.{CurrentEntry}
use Rattle.cg_snap.proofs.Joins.{ends_push, lines_first, push_at, records-append, snap_append, unlines-push}

-- ---- Lists

pub all_push : {X : Type 0} (P : X → Type 0) (xs : List X) (x : X) → AllByRecursion P xs → P x → AllByRecursion P (xs ++ x ∷ [])
all_push P [] x p q = (q, tt)
all_push P (y ∷ xs) x p q = (p.0, all_push P xs x p.1 q)

pub all_both : {X : Type 0} (P : X → Type 0) (xs ys : List X) → AllByRecursion P xs → AllByRecursion P ys → AllByRecursion P (xs ++ ys)
all_both P [] ys p q = q
all_both P (x ∷ xs) ys p q = (p.0, all_both P xs ys p.1 q)

pub all_right : {X : Type 0} (P : X → Type 0) (xs ys : List X) → AllByRecursion P (xs ++ ys) → AllByRecursion P ys
all_right P [] ys p = p
all_right P (x ∷ xs) ys p = all_right P xs ys p.1

pub lacks_right : (b : ℕ) (xs ys : List ℕ) → Lacks b (xs ++ ys) → Lacks b ys
lacks_right b [] ys p = p
lacks_right b (x ∷ xs) ys p = lacks_right b xs ys p.1

pub some_push : (ls : List (List ℕ)) (l : List ℕ) → ls ++ l ∷ [] ≢ []
some_push [] l = λ e. absurd (cc)
some_push (m ∷ ls) l = λ e. absurd (cc)

-- A byte before the first separator stands before it in every reading.
pub before : (c : ℕ) (a b x y : List ℕ) (z : ℕ) → Lacks c a → z ≢ c → a ++ z ∷ x ≡ b ++ c ∷ y → (d : List ℕ) × (b ≡ a ++ z ∷ d) × (x ≡ d ++ c ∷ y)
before c [] [] x y z p n e = let h : z ≡ c = cc in absurd (n h)
before c [] (b ∷ bs) x y z p n e = (bs, cc, cc)
before c (a ∷ as') [] x y z p n e = let h : a ≡ c = cc in absurd (p.0 h)
before c (a ∷ as') (b ∷ bs) x y z p n e =
    let t : as' ++ z ∷ x ≡ bs ++ c ∷ y = cc in
    let h : a ≡ b = cc in
    let r = before c as' bs x y z p.1 n t in
    let line = r.1 in
    (r.0, cc, r.2)

-- ---- The bytes of a path

byte_first : (x : ℕ) (xs : List ℕ) → IsPathByte x → All IsPathByte xs → All IsPathByte (x ∷ xs)
byte_first x xs first rest zero d h = first
byte_first x xs first rest (suc k) d h = rest k d (omega (arith, h))

pub all_bytes : (path : List ℕ) → ArePathBytes path → All IsPathByte path
all_bytes [] h = λ k d l. absurd (omega (arith, l))
all_bytes (x ∷ xs) h = byte_first x xs h.0 (all_bytes xs h.1)

pub bytes_no_nul : (p : List ℕ) → ArePathBytes p → Lacks 0 p
bytes_no_nul [] h = tt
bytes_no_nul (b ∷ p) h = ((λ e. absurd (omega (arith, h.0.0, e))), bytes_no_nul p h.1)

pub bytes_no_newline : (p : List ℕ) → ArePathBytes p → Lacks 10 p
bytes_no_newline [] h = tt
bytes_no_newline (b ∷ p) h = (h.0.2, bytes_no_newline p h.1)

-- ---- A begun path goes on to a path of a file that can be read, another than q

abbrev pub longer : List ℕ → ℕ → List ℕ
longer path last = (path ++ 47 ∷ []) ++ last ∷ []

pub longer_name : (path : List ℕ) (last : ℕ) → last ≢ 47 → IsNameOf (longer path last) (last ∷ [])
longer_name path last n = record { directory = path ++ 47 ∷ []; whole = refl; ends = inr (path, refl); plain = (n, tt) }

raw_120 : (profile : Profile) → read_form_of profile (120 ∷ []) ≡ Some form.Raw
unfolding read_form_of
raw_120 One = refl
raw_120 Two = refl
raw_120 Kernel = refl

raw_121 : (profile : Profile) → read_form_of profile (121 ∷ []) ≡ Some form.Raw
unfolding read_form_of
raw_121 One = refl
raw_121 Two = refl
raw_121 Kernel = refl

pub record Goes (profile : Profile) (begun q : List ℕ) : Type 0 where
  pub rest : List ℕ
  pub good : IsPath (begun ++ rest)
  pub reads_at : ReadsAt profile (begun ++ rest) (Some form.Raw)
  pub other : begun ++ rest ≢ q

-- It is a path.
pub longer_good : (begun : List ℕ) (last : ℕ) → ArePathBytes begun → IsPathByte last → last ≢ 47 → IsPath (longer begun last)
longer_good begun last h b n =
    let slash : IsPathByte 47 = (omega arith, omega arith, (λ e. omega (arith, e))) in
    let bytes : ArePathBytes (longer begun last) = all_push IsPathByte (begun ++ 47 ∷ []) last (all_push IsPathByte begun 47 h slash) b in
    record { bytes = all_bytes (longer begun last) bytes; front = begun ++ 47 ∷ []; last = last; ends = refl; named = n }

goes_by : (profile : Profile) (begun q : List ℕ) (last : ℕ) → ArePathBytes begun → IsPathByte last → last ≢ 47 → read_form_of profile (last ∷ []) ≡ Some form.Raw → longer begun last ≢ q → Goes profile begun q
goes_by profile begun q last h b n r o =
    let same : longer begun last ≡ begun ++ (47 ∷ last ∷ []) = append_assoc begun (47 ∷ []) (last ∷ []) in
    let reads : ReadsAt profile (longer begun last) (Some form.Raw) = record { name = last ∷ []; name_is = longer_name begun last n; form_is = r } in
    record {
      rest = 47 ∷ last ∷ [];
      good = subst IsPath same (longer_good begun last h b n);
      reads_at = subst (λ path. ReadsAt profile path (Some form.Raw)) same reads;
      other = subst (λ (path : List ℕ). path ≢ q) same o;
    }

last_differs : (begun : List ℕ) → longer begun 121 ≡ longer begun 120 → ⊥
last_differs begun e = omega (arith, (push_one (begun ++ 47 ∷ []) (begun ++ 47 ∷ []) 121 120 e).1)

pub same_or_other : (p q : List ℕ) → (p ≡ q) ⊎ (p ≢ q)
same_or_other [] [] = inl refl
same_or_other [] (b ∷ q) = inr (λ e. absurd (cc))
same_or_other (a ∷ p) [] = inr (λ e. absurd (cc))
same_or_other (a ∷ p) (b ∷ q) = of (cases_eq a b) (same_or_other p q)
  where
    of : ((a ≡ b) ⊎ (a ≡ b → ⊥)) → ((p ≡ q) ⊎ (p ≢ q)) → ((a ∷ p ≡ b ∷ q) ⊎ (a ∷ p ≢ b ∷ q))
    of (inl e) (inl f) = inl (cc)
    of (inl e) (inr n) = inr (λ f. n (cc))
    of (inr n) f = inr (λ g. n (cc))

pub other_path : (profile : Profile) (begun q : List ℕ) → ArePathBytes begun → Goes profile begun q
other_path profile begun q h =
    elim (same_or_other (longer begun 120) q) [
      | inl e ↦ goes_by profile begun q 121 h (omega arith, omega arith, (λ f. omega (arith, f))) (λ f. omega (arith, f)) (raw_121 profile) (λ f. last_differs begun (f ∙ sym e))
      | inr n ↦ goes_by profile begun q 120 h (omega arith, omega arith, (λ f. omega (arith, f))) (λ f. omega (arith, f)) (raw_120 profile) n
    ]

-- ---- Entries

-- Lines that spell a value at a path are those of an entry.
pub record HasEntry (profile : Profile) (path : List ℕ) (v : Value) (lines : List (List ℕ)) : Type 0 where
  pub entry : EntryData
  pub path_is : entry.path ≡ path
  pub are : AreEntryLines profile entry lines

pub is_entry : (profile : Profile) (path : List ℕ) (kind : ReadForm) (v : Value) (lines : List (List ℕ)) → IsPath path → ReadsAt profile path (Some kind) → lines ≢ [] → ReadLines kind v lines → IsEntry profile path v
is_entry profile path kind v lines good r some s = record { good = good; kind = kind; reads = r; fits = record { lines = lines; spelled = s }; some_line = printed_some profile path kind v lines r some s }

pub has_entry : (profile : Profile) (path : List ℕ) (kind : ReadForm) (v : Value) (lines : List (List ℕ)) → IsPath path → ReadsAt profile path (Some kind) → lines ≢ [] → ReadLines kind v lines → HasEntry profile path v lines
has_entry profile path kind v lines good r some s = record {
  entry = record { path = path; value = v; fits = ∣ (profile, is_entry profile path kind v lines good r some s) ∣₁ };
  path_is = refl;
  are = record { kind = kind; reads = r; some = some; spelled = s };
}

lines_end : (ls : List (List ℕ)) → ls ≢ [] → (front : List ℕ) × (unlines ls ≡ front ++ 10 ∷ [])
lines_end [] some = absurd (some refl)
lines_end (l ∷ []) some = (l, refl)
lines_end (l ∷ m ∷ ls) some =
    let r = lines_end (m ∷ ls) (λ e. absurd (cc)) in
    (l ++ 10 ∷ r.0, ap (λ (t : List ℕ). l ++ 10 ∷ t) r.1 ∙ sym (append_assoc l (10 ∷ r.0) (10 ∷ [])))

-- Whole lines with which a file of the kind begins are a file.
pub lines_can_end : (kind : ReadForm) (lines : List (List ℕ)) → lines ≢ [] → AllByRecursion (Lacks 10) lines → Viable (KindFile kind) (unlines lines) → (v : Value) × ReadLines kind v lines
lines_can_end kind lines some plain f =
    let e = lines_end lines some in
    let file = subst (KindFile kind) (sym e.1) (can_end kind e.0 (subst (Viable (KindFile kind)) e.1 f)) in
    (file.0, lines_spell kind file.0 lines plain file.1)

-- ---- A byte of a path

-- ---- A byte of a line

text_goes : (u l d x y : List ℕ) (b : ℕ) → x ≡ d ++ 10 ∷ y → (u ++ (l ++ b ∷ [])) ++ x ≡ (u ++ ((l ++ b ∷ []) ++ (d ++ 10 ∷ []))) ++ y
text_goes u l d x y b e = rw e (simp append_assoc)

goes_in : (kind : ReadForm) (ls : List (List ℕ)) (line : List ℕ) (b : ℕ) (x : List ℕ) (ms : List (List ℕ)) →
    b ≢ 10 → Lacks 10 line → AllByRecursion (Lacks 10) ms → line ++ b ∷ x ≡ unlines ms →
    KindFile kind ((unlines ls ++ (line ++ b ∷ [])) ++ x) →
    CanEndLine kind ls (line ++ b ∷ [])
goes_in kind ls line b x [] n w p e f = absurd (not_empty line x b e)
goes_in kind ls line b x (m ∷ ms) n w p e f =
    let d = before 10 line m x (unlines ms) b w n e in
    let q : Lacks 10 (line ++ b ∷ d.0) = subst (Lacks 10) d.1 p.0 in
    let text : (unlines ls ++ (line ++ b ∷ [])) ++ x ≡ (unlines ls ++ ((line ++ b ∷ []) ++ (d.0 ++ 10 ∷ []))) ++ unlines ms = text_goes (unlines ls) line d.0 x (unlines ms) b d.2 in
    (d.0, (lacks_right 10 line (b ∷ d.0) q).1, record { rest = unlines ms; whole = subst (KindFile kind) text f })

-- Where a line is begun, it can end.
pub line_goes : (kind : ReadForm) (ls : List (List ℕ)) (line : List ℕ) (b : ℕ) → b ≢ 10 → Lacks 10 line → AllByRecursion (Lacks 10) ls → Viable (KindFile kind) (unlines ls ++ (line ++ b ∷ [])) → CanEndLine kind ls (line ++ b ∷ [])
line_goes kind ls line b n w a v =
    let t = v.whole.1 in
    let e : unlines ls ++ (line ++ b ∷ v.rest) ≡ unlines t.lines = sym (simp append_assoc) ∙ t.text_is in
    let plain = plain_lines kind v.whole.0 t.lines t.spelled in
    let r = lines_first ls t.lines (line ++ b ∷ v.rest) a plain e in
    let more : AllByRecursion (Lacks 10) r.0 = all_right (Lacks 10) ls r.0 (subst (AllByRecursion (Lacks 10)) r.1 plain) in
    goes_in kind ls line b v.rest r.0 n w more r.2 v.whole

last_of : (b : ℕ) (q : List ℕ) → (front : List ℕ) × (last : ℕ) × (b ∷ q ≡ front ++ last ∷ [])
last_of b [] = ([], b, refl)
last_of b (c ∷ q) = let r = last_of c q in (b ∷ r.0, r.1, ap (λ (t : List ℕ). b ∷ t) r.2)

-- Where some bytes of a line came, it can end.
run_goes : (kind : ReadForm) (ls : List (List ℕ)) (line : List ℕ) (b : ℕ) (q : List ℕ) → Lacks 10 line → Lacks 10 (b ∷ q) →
    AllByRecursion (Lacks 10) ls → Viable (KindFile kind) (unlines ls ++ (line ++ b ∷ q)) → CanEndLine kind ls (line ++ b ∷ q)
run_goes kind ls line b q w n a v =
    let l = last_of b q in
    let same : line ++ (b ∷ q) ≡ (line ++ l.0) ++ l.1 ∷ [] = ap (λ (t : List ℕ). line ++ t) l.2 ∙ sym (append_assoc line l.0 (l.1 ∷ [])) in
    let whole : Lacks 10 ((line ++ l.0) ++ l.1 ∷ []) = subst (Lacks 10) same (lacks_both 10 line (b ∷ q) w n) in
    let last = lacks_right 10 (line ++ l.0) (l.1 ∷ []) whole in
    subst (CanEndLine kind ls) (sym same)
    (line_goes kind ls (line ++ l.0) l.1 last.0 (lacks_left 10 (line ++ l.0) (l.1 ∷ []) whole) a (subst (λ (t : List ℕ). Viable (KindFile kind) (unlines ls ++ t)) same v))
  where
    lacks_left : (c : ℕ) (xs ys : List ℕ) → Lacks c (xs ++ ys) → Lacks c xs
    lacks_left c [] ys p = tt
    lacks_left c (x ∷ xs) ys p = (p.0, lacks_left c xs ys p.1)

pub run_can_end : (kind : ReadForm) (ls : List (List ℕ)) (line q : List ℕ) → Lacks 10 line → Lacks 10 q →
    AllByRecursion (Lacks 10) ls → CanEndLine kind ls line → Viable (KindFile kind) (unlines ls ++ (line ++ q)) →
    CanEndLine kind ls (line ++ q)
run_can_end kind ls line [] w n a g v = rw (append-nil line) g
run_can_end kind ls line (b ∷ q) w n a g v = run_goes kind ls line b q w n a v

-- So can one of which none came yet, where some may come.
pub run_begins : (kind : ReadForm) (ls : List (List ℕ)) (q : List ℕ) → 0 < length q → Lacks 10 q → AllByRecursion (Lacks 10) ls → Viable (KindFile kind) (unlines ls ++ q) → CanEndLine kind ls []
run_begins kind ls [] some n a v = absurd (omega (arith, some))
run_begins kind ls (b ∷ q) some n a v =
    let g = run_goes kind ls [] b q tt n a v in
    let same : (b ∷ q) ++ (g.0 ++ 10 ∷ []) ≡ ((b ∷ q) ++ g.0) ++ 10 ∷ [] = sym (append_assoc (b ∷ q) g.0 (10 ∷ [])) in
    ((b ∷ q) ++ g.0, lacks_both 10 (b ∷ q) g.0 n g.1, subst (λ (t : List ℕ). Viable (KindFile kind) (unlines ls ++ t)) same g.2)

told_more : (n : ℕ) → saturated (n + 1) ≡ saturated (saturated n + 1)
told_more n = omega arith

-- A line of a new file goes on.
pub new_goes : (profile : Profile) (path : List ℕ) (kind : ReadForm) → ReadsAt profile path (Some kind) → CanEndLine kind [] []
new_goes profile path kind r =
    let o = first_value kind (read_form_ok profile r.name kind r.form_is) in
    let whole : KindFile kind (o.1 ++ 10 ∷ []) = (o.0, record { lines = o.1 ∷ []; spelled = o.2; text_is = refl }) in
    (o.1, (plain_lines kind o.0 (o.1 ∷ []) o.2).0, record { rest = []; whole = subst (KindFile kind) (sym (append-nil (o.1 ++ 10 ∷ []))) whole })

line_text : (p g r q l m t : List ℕ) → t ≡ r ++ (q ++ 0 ∷ ((l ++ m) ++ 10 ∷ [])) → p ≡ g ++ (r ++ (q ++ 0 ∷ l)) → g ++ t ≡ p ++ (m ++ 10 ∷ [])
line_text p g r q l m t e f = rw (e, f) (simp append_assoc)

path_text : (p g r b t : List ℕ) → p ≡ g ++ (r ++ b) → (g ++ r) ++ (b ++ t) ≡ p ++ t
path_text p g r b t e = rw e (simp append_assoc)

module _ (profile : Profile) where
  pub path_run : (begun begun' : List ℕ) (x : CurrentEntry) (p : List ℕ) (es : List EntryData) (bs : List ℕ) → ArePathBytes bs → begun' ≡ begun ++ bs → HasConsumedInPath profile begun x p es → HasConsumedInPath profile begun' x (p ++ bs) es
  path_run begun begun' x p es bs q e h = record {
    given = h.given;
    lines = h.lines;
    kind = h.kind;
    split = rw (h.split, e) (simp append_assoc);
    entries = h.entries;
    other = h.other;
    good = h.good;
    reads_at = h.reads_at;
    some = h.some;
    plain = h.plain;
    reads = h.reads;
    begun_path = rw e (all_both IsPathByte begun bs h.begun_path q);
    count = h.count;
  }

  -- The same where the reader took nothing.
  pub path_kept : (begun : List ℕ) (x x' : CurrentEntry) (p : List ℕ) (es : List EntryData) (h : HasConsumedInPath profile begun x p es) → x'.path.items ≡ x.path.items → x'.lines ≡ x.lines → Reads x'.reader h.kind (unlines h.lines) →
      HasConsumedInPath profile begun x' p es
  path_kept begun x x' p es h e c r = record {
    given = h.given;
    lines = h.lines;
    kind = h.kind;
    split = rw e h.split;
    entries = h.entries;
    other = rw e h.other;
    good = rw e h.good;
    reads_at = rw e h.reads_at;
    some = h.some;
    plain = h.plain;
    reads = r;
    begun_path = h.begun_path;
    count = c ∙ h.count;
  }

  abbrev pub line_run : (begun : List ℕ) (x x' : CurrentEntry) (p : List ℕ) (es : List EntryData) (bs : List ℕ)
      (h : HasConsumedInLine profile begun x p es) → Lacks 10 bs → x'.path.items ≡ x.path.items → x'.lines ≡ x.lines →
      Reads x'.reader h.kind ((unlines h.lines ++ h.line) ++ bs) → HasConsumedInLine profile begun x' (p ++ bs) es
  line_run begun x x' p es bs h n e c r =
      let reads : Reads x'.reader h.kind (unlines h.lines ++ (h.line ++ bs)) = rw append_assoc at r in
      record {
        given = h.given;
        lines = h.lines;
        line = h.line ++ bs;
        kind = h.kind;
        split = rw (h.split, e) (simp append_assoc);
        entries = h.entries;
        other = rw e h.other;
        good = rw e h.good;
        reads_at = rw e h.reads_at;
        plain = h.plain;
        plain_line = lacks_both 10 h.line bs h.plain_line n;
        reads = reads;
        goes = run_can_end h.kind h.lines h.line bs h.plain_line n h.plain h.goes (reads_viable x'.reader h.kind _ reads);
        nothing_begun = h.nothing_begun;
        count = c ∙ h.count;
      }

  -- The rest of the line and its newline at once.
  pub line_whole : (begun : List ℕ) (x x' : CurrentEntry) (p : List ℕ) (es : List EntryData) (bs : List ℕ)
      (h : HasConsumedInLine profile begun x p es) → Lacks 10 bs → x'.path.items ≡ x.path.items → x'.lines ≡ saturated (x.lines + 1) →
      Reads x'.reader h.kind ((unlines h.lines ++ h.line) ++ (bs ++ 10 ∷ [])) → HasConsumedInPath profile begun x' (p ++ (bs ++ 10 ∷ [])) es
  line_whole begun x x' p es bs h n e c r = record {
    given = h.given;
    lines = h.lines ++ (h.line ++ bs) ∷ [];
    kind = h.kind;
    split = rw (h.split, e, records-append, h.nothing_begun) (simp (append_assoc, append-nil));
    entries = h.entries;
    other = rw e h.other;
    good = rw e h.good;
    reads_at = rw e h.reads_at;
    some = some_push h.lines (h.line ++ bs);
    plain = all_push (Lacks 10) h.lines (h.line ++ bs) h.plain (lacks_both 10 h.line bs h.plain_line n);
    reads = rw (unlines-push, append_assoc h.line bs (10 ∷ []), ← append_assoc (unlines h.lines) h.line (bs ++ 10 ∷ [])) r;
    begun_path = rw h.nothing_begun tt;
    count = c ∙ ap (λ n. saturated (n + 1)) h.count ∙ sym (told_more (length h.lines)) ∙ sym (ap saturated (length_push h.lines (h.line ++ bs)));
  }

  -- ---- The NUL of a path

  pub start_path : (begun begun' p : List ℕ) (x' : CurrentEntry) (es : List EntryData) (b : ℕ) (k : ReadForm) → b ≡ 0 →
      begun' ≡ [] → x'.path.items ≡ begun → x'.lines ≡ 0 → IsPath begun → ReadsAt profile begun (Some k) →
      Reads x'.reader k [] → HasConsumedAPath begun p es → HasConsumedInLine profile begun' x' (p ++ b ∷ []) es
  start_path begun begun' p x' es b k z n e c g r t h = record {
    given = [];
    lines = [];
    line = [];
    kind = k;
    split = rw (h.bytes, e, z) refl;
    entries = rw h.none refl;
    other = rw h.none tt;
    good = rw e g;
    reads_at = rw e r;
    plain = tt;
    plain_line = tt;
    reads = t;
    goes = new_goes profile begun k r;
    nothing_begun = n;
    count = c;
  }

  pub same_path : (begun begun' : List ℕ) (x x' : CurrentEntry) (p : List ℕ) (es : List EntryData) (b : ℕ)
      (h : HasConsumedInPath profile begun x p es) → b ≡ 0 → begun' ≡ [] → begun ≡ x.path.items →
      x'.path.items ≡ x.path.items → x'.lines ≡ x.lines → Reads x'.reader h.kind (unlines h.lines) → CanEndLine h.kind h.lines [] →
      HasConsumedInLine profile begun' x' (p ++ b ∷ []) es
  same_path begun begun' x x' p es b h z n s e c r g = record {
    given = h.given;
    lines = h.lines;
    line = [];
    kind = h.kind;
    split = rw (h.split, e, z, s) (simp append_assoc);
    entries = h.entries;
    other = rw e h.other;
    good = rw e h.good;
    reads_at = rw e h.reads_at;
    plain = h.plain;
    plain_line = tt;
    reads = rw append-nil r;
    goes = g;
    nothing_begun = n;
    count = c ∙ h.count;
  }

  pub next_path : (begun begun' : List ℕ) (x x' : CurrentEntry) (p : List ℕ) (es : List EntryData) (b : ℕ) (k : ReadForm)
      (e : EntryData) (h : HasConsumedInPath profile begun x p es) → b ≡ 0 → begun' ≡ [] → x.path.items ≢ begun →
      x'.path.items ≡ begun → x'.lines ≡ 0 → IsPath begun → ReadsAt profile begun (Some k) → Reads x'.reader k [] →
      e.path ≡ x.path.items → AreEntryLines profile e h.lines → HasConsumedInLine profile begun' x' (p ++ b ∷ []) (es ++ e ∷ [])
  next_path begun begun' x x' p es b k e h z n s i c g r t q a = record {
    given = h.given ++ records x.path.items h.lines;
    lines = [];
    line = [];
    kind = k;
    split = rw (h.split, i, z) (simp append_assoc);
    entries = push_at profile es h.given x.path.items e h.lines q h.entries a h.other;
    other = ends_push es e x'.path.items (rw (q, i) s);
    good = rw i g;
    reads_at = rw i r;
    plain = tt;
    plain_line = tt;
    reads = t;
    goes = new_goes profile begun k r;
    nothing_begun = n;
    count = c;
  }

  -- The present entry can be ended.
  pub path_ends : (begun : List ℕ) (x : CurrentEntry) (p : List ℕ) (es : List EntryData) (h : HasConsumedInPath profile begun x p es) → (v : Value) × ReadLines h.kind v h.lines
  path_ends begun x p es h = lines_can_end h.kind h.lines h.some h.plain (reads_viable x.reader h.kind (unlines h.lines) h.reads)

  -- So can that of a line, after its whole records.
  pub line_can_end : (begun : List ℕ) (x : CurrentEntry) (p : List ℕ) (es : List EntryData) (h : HasConsumedInLine profile begun x p es) → h.lines ≢ [] → (v : Value) × ReadLines h.kind v h.lines
  line_can_end begun x p es h some =
      let v = reads_viable x.reader h.kind (unlines h.lines ++ h.line) h.reads in
      lines_can_end h.kind h.lines some h.plain (record { rest = h.line ++ v.rest; whole = subst (KindFile h.kind) (append_assoc (unlines h.lines) h.line v.rest) v.whole })

  pub present_entry : (begun : List ℕ) (x : CurrentEntry) (p : List ℕ) (es : List EntryData) (h : HasConsumedInPath profile begun x p es) → (e : EntryData) × (e.path ≡ x.path.items) × AreEntryLines profile e h.lines
  present_entry begun x p es h =
      let v = path_ends begun x p es h in
      let e = has_entry profile x.path.items h.kind v.0 h.lines h.good h.reads_at h.some v.1 in
      (e.entry, e.path_is, e.are)

  -- ---- Each state can be completed

  -- A record of one line at a path that can be read.
  pub one_record : (q : List ℕ) (kind : ReadForm) → IsPath q → ReadsAt profile q (Some kind) → (rest : List ℕ) × (e : EntryData) × (e.path ≡ q) × SnapText profile (e ∷ []) (q ++ 0 ∷ rest)
  one_record q kind g r =
      let o = first_value kind (read_form_ok profile r.name kind r.form_is) in
      let e = has_entry profile q kind o.0 (o.1 ∷ []) g r (λ z. absurd (cc)) o.2 in
      (o.1 ++ 10 ∷ [], e.entry, e.path_is, (o.1 ∷ [], [], e.are, tt, (ap (λ (path : List ℕ). path ++ 0 ∷ (o.1 ++ 10 ∷ [])) (sym e.path_is) ∙ sym (append-nil (records e.entry.path (o.1 ∷ [])))), refl))

  -- A text of one record after a begun path.
  begun_record : (begun q : List ℕ) → ArePathBytes begun → (rest : List ℕ) × (e : EntryData) × (e.path ≢ q) × SnapText profile (e ∷ []) (begun ++ rest)
  begun_record begun q h =
      let o = other_path profile begun q h in
      let r = one_record (begun ++ o.rest) form.Raw o.good o.reads_at in
      (o.rest ++ 0 ∷ r.0, r.1, (λ z. o.other (sym r.2 ∙ z)), subst (SnapText profile (r.1 ∷ [])) (append_assoc begun o.rest (0 ∷ r.0)) r.3)

  pub start_viable : (begun p : List ℕ) (es : List EntryData) → HasConsumedAPath begun p es → Viable (Snap profile) p
  start_viable begun p es h = let r = begun_record begun [] h.begun_path in record { rest = r.0; whole = (r.1 ∷ [], rw h.bytes r.3) }

  pub path_viable : (begun : List ℕ) (x : CurrentEntry) (p : List ℕ) (es : List EntryData) → HasConsumedInPath profile begun x p es → Viable (Snap profile) p
  path_viable begun x p es h =
      let r = begun_record begun x.path.items h.begun_path in
      let e = present_entry begun x p es h in
      let front = push_at profile es h.given x.path.items e.0 h.lines e.1 h.entries e.2 h.other in
      let whole = snap_append profile (es ++ e.0 ∷ []) (r.1 ∷ []) (h.given ++ records x.path.items h.lines) (begun ++ r.0) front r.3 (ends_push es e.0 r.1.path (λ z. r.2 (sym z ∙ e.1))) in
      record { rest = r.0; whole = ((es ++ e.0 ∷ []) ++ r.1 ∷ [], subst (SnapText profile ((es ++ e.0 ∷ []) ++ r.1 ∷ [])) (path_text p h.given (records x.path.items h.lines) begun r.0 h.split) whole) }

  -- Whole lines, with which a file of the kind begins, can end there.
  pub lines_text_snap : (es : List EntryData) (given q : List ℕ) (k : ReadForm) (lines : List (List ℕ)) →
      SnapText profile es given → EndsOther es q → IsPath q → ReadsAt profile q (Some k) → lines ≢ [] →
      AllByRecursion (Lacks 10) lines → Viable (KindFile k) (unlines lines) →
      Snap profile (given ++ records q lines)
  lines_text_snap es given q k lines h o g r some a f =
      let v = lines_can_end k lines some a f in
      let e = has_entry profile q k v.0 lines g r some v.1 in
      (es ++ e.entry ∷ [], push_at profile es given q e.entry lines e.path_is h e.are o)

  pub line_text_viable : (es : List EntryData) (given q : List ℕ) (k : ReadForm) (lines : List (List ℕ))
      (line p : List ℕ) → SnapText profile es given → EndsOther es q → IsPath q → ReadsAt profile q (Some k) →
      AllByRecursion (Lacks 10) lines → Lacks 10 line → CanEndLine k lines line →
      p ≡ given ++ (records q lines ++ (q ++ 0 ∷ line)) → Viable (Snap profile) p
  line_text_viable es given q k lines line p h o g r a b c split =
      let m = c.0 in
      let text : unlines lines ++ (line ++ (m ++ 10 ∷ [])) ≡ unlines (lines ++ (line ++ m) ∷ []) = rw unlines-push (simp append_assoc) in
      let whole = lines_text_snap es given q k (lines ++ (line ++ m) ∷ []) h o g r (some_push lines (line ++ m)) (all_push (Lacks 10) lines (line ++ m) a (lacks_both 10 line m b c.1)) (subst (Viable (KindFile k)) text c.2) in
      record { rest = m ++ 10 ∷ []; whole = subst (Snap profile) (line_text p given (records q lines) q line m (records q (lines ++ (line ++ m) ∷ [])) (records-append q lines ((line ++ m) ∷ [])) split) whole }

  pub line_viable : (begun : List ℕ) (x : CurrentEntry) (p : List ℕ) (es : List EntryData) → HasConsumedInLine profile begun x p es → Viable (Snap profile) p
  line_viable begun x p es h = line_text_viable es h.given x.path.items h.kind h.lines h.line p h.entries h.other h.good h.reads_at h.plain h.plain_line h.goes h.split
