-- Where an entry of a snapshot ends: with the byte that closes it, the NUL behind another path.
use Rattle.std.proofs.Common.{◌≡◌, ◌≢◌, ℕ, List, [], ◌∷◌, ◌++◌, ◌⊎◌, inl, inr, refl, sym, ap, subst, ◌∙◌, append_assoc, arith}
use Rattle.std.proofs.lemmas.List.{append-nil, append_cancel_left}
use Rattle.std.specs.List.{AllByRecursion}
use Rattle.cg_text.specs.ListFacts.{push_one}
use Rattle.cg_text.specs.Raw.{IsRawLine}
use Rattle.cg_text.specs.Texts.{Lacks}
use Rattle.cg_text.specs.TextsLaws.{lacks_both, lacks_inside}
use Rattle.cg_value.specs.Entry.{EntryData, IsPath}
use Rattle.cg_value.specs.EntryLaws.{entry_path}
use Rattle.cg_value.specs.PathLaws.{path_lacks_newline, path_lacks_nul}
use Rattle.cg_value.specs.Print.{print_lines}
use Rattle.cg_value.specs.RawLinesLaws.{raw_lines}
use Rattle.cg_value.specs.Records.{records}
use Rattle.cg_value.specs.declared.profile.Profile.{Profile}
use Rattle.cg_snap.specs.Closed.{Closed, EndsOther}
use Rattle.cg_snap.specs.Laws.{print_entries}
use Rattle.cg_snap.specs.Snap.{AreEntryLines, SnapText}
use Rattle.cg_snap.specs.SnapLaws.{NotOf, cut, first_path, lines_plain, printed_lines, record_then, records_first, snap_is_print}

-- ---- Another path behind whole records

-- What came of a record of the path.
abbrev IsBegunOf : List ℕ → List ℕ → Type 0
IsBegunOf path bytes = (Lacks 0 bytes × Lacks 10 bytes) ⊎ ((line : List ℕ) × Lacks 10 line × (bytes ≡ path ++ 0 ∷ line))

begun_plain : (q t : List ℕ) → IsPath q → IsBegunOf q t → Lacks 10 t
begun_plain q t a (inl n) = n.1
begun_plain q t a (inr l) = subst (Lacks 10) (sym l.2) (lacks_both 10 q (0 ∷ l.0) (path_lacks_newline q a) ((λ e. absurd (cc)), l.1))

newline_inside : (q l back t : List ℕ) → Lacks 10 t → t ≡ q ++ 0 ∷ (l ++ 10 ∷ back) → ⊥
newline_inside q l back t n e = lacks_inside 10 (q ++ 0 ∷ l) back (subst (Lacks 10) (e ∙ sym (append_assoc q (0 ∷ l) (10 ∷ back))) n)

other_begun : (q g y t : List ℕ) → IsPath q → IsPath g → q ≢ g → IsBegunOf q t → t ≡ g ++ 0 ∷ y → ⊥
other_begun q g y t a b n (inl l) e = lacks_inside 0 g y (subst (Lacks 0) e l.0)
other_begun q g y t a b n (inr l) e = n (cut 0 q g l.0 y (path_lacks_nul q a) (path_lacks_nul g b) (sym l.2 ∙ e)).0

other_behind : (q f g y t : List ℕ) (ns : List (List ℕ)) → IsPath q → IsPath g → q ≢ g → IsBegunOf q t → t ≡ records f ns ++ (g ++ 0 ∷ y) → ⊥
other_behind q f g y t [] a b n l e = other_begun q g y t a b n l e
other_behind q f g y t (m ∷ ns) a b n l e =
    newline_inside f m (records f ns ++ (g ++ 0 ∷ y)) t (begun_plain q t a l) (e ∙ record_then f m (records f ns) (g ++ 0 ∷ y))

-- Bytes of one path are no whole records of a path and then another path with its NUL.
other_path : (q f g y t : List ℕ) (ks ls : List (List ℕ)) → IsPath q → IsPath f → IsPath g → f ≢ g → AllByRecursion (Lacks 10) ks → AllByRecursion (Lacks 10) ls → ls ≢ [] →
    IsBegunOf q t → records q ks ++ t ≡ records f ls ++ (g ++ 0 ∷ y) → ⊥
other_path q f g y t ks [] a b d n p r some l e = some refl
other_path q f g y t [] (m ∷ ls) a b d n p r some l e =
    newline_inside f m (records f ls ++ (g ++ 0 ∷ y)) t (begun_plain q t a l) (e ∙ record_then f m (records f ls) (g ++ 0 ∷ y))
other_path q f g y t (k ∷ ks) (m ∷ ls) a b d n p r some l e =
    let w = g ++ 0 ∷ y in
    let same : q ≡ f = first_path f q (k ∷ ks) t (m ++ 10 ∷ (records f ls ++ w)) b a (λ z. absurd (cc)) (e ∙ record_then f m (records f ls) w) in
    let other : NotOf f w = λ x z. n (sym (cut 0 g f y x (path_lacks_nul g d) (path_lacks_nul f b) z).0) in
    let first = records_first f (k ∷ ks) (m ∷ ls) t w b p r other (sym (subst (λ (x : List ℕ). records x (k ∷ ks) ++ t ≡ records f (m ∷ ls) ++ w) same e)) in
    other_behind q f g y t first.0 a d (λ z. n (sym same ∙ z)) l first.3

-- ---- The last entry

last_byte : (b : ℕ) (bs : List ℕ) → (front : List ℕ) × (last : ℕ) × (b ∷ bs ≡ front ++ last ∷ [])
last_byte b [] = ([], b, refl)
last_byte b (c ∷ bs) = let r = last_byte c bs in (b ∷ r.0, r.1, ap (λ (t : List ℕ). b ∷ t) r.2)

ends_last : (es : List EntryData) (e : EntryData) (q : List ℕ) → EndsOther (es ++ e ∷ []) q → e.path ≢ q
ends_last [] e q o = o
ends_last (f ∷ []) e q o = o
ends_last (f ∷ g ∷ es) e q o = ends_last (g ∷ es) e q o

some_push : (es : List EntryData) (e : EntryData) → es ++ e ∷ [] ≢ []
some_push [] e z = absurd (cc)
some_push (f ∷ es) e z = absurd (cc)

pub entries_push : (es : List EntryData) (e : EntryData) → print_entries (es ++ e ∷ []) ≡ print_entries es ++ records e.path (print_lines e.value)
entries_push [] e = append-nil (records e.path (print_lines e.value))
entries_push (f ∷ es) e =
    let first = records f.path (print_lines f.value) in
    ap (λ (t : List ℕ). first ++ t) (entries_push es e) ∙ sym (append_assoc first (print_entries es) (records e.path (print_lines e.value)))

-- The last entry of a snapshot has the lines of its canonical text.
pub last_lines : (profile : Profile) (es : List EntryData) (e : EntryData) (text : List ℕ) → SnapText profile (es ++ e ∷ []) text → AreEntryLines profile e (print_lines e.value)
last_lines profile [] e text h = subst (AreEntryLines profile e) (printed_lines profile e h.0 h.2) h.2
last_lines profile (f ∷ es) e text h = last_lines profile es e h.1 h.5

raw_lacks_nul : (line : List ℕ) → IsRawLine line → Lacks 0 line
raw_lacks_nul [] h = tt
raw_lacks_nul (c ∷ cs) h = ((λ e. absurd (omega (arith, h.0, e))), raw_lacks_nul cs h.3)

all_lack_nul : (lines : List (List ℕ)) → AllByRecursion IsRawLine lines → AllByRecursion (Lacks 0) lines
all_lack_nul [] h = tt
all_lack_nul (line ∷ lines) h = (raw_lacks_nul line h.0, all_lack_nul lines h.1)

-- No line of an entry has a NUL.
pub lines_lack_nul : (profile : Profile) (e : EntryData) (lines : List (List ℕ)) → AreEntryLines profile e lines → AllByRecursion (Lacks 0) lines
lines_lack_nul profile e lines a = all_lack_nul lines (raw_lines a.kind e.value lines a.spelled)

-- The bytes are those of the entries and of one more, and the next path with its NUL.
pub record IsEntryEnd (bytes : List ℕ) (es : List EntryData) (e : EntryData) : Type 0 where
  pub next : List ℕ
  pub good : IsPath next
  pub plain : AllByRecursion (Lacks 0) (print_lines e.value)
  pub split : bytes ≡ print_entries es ++ (records e.path (print_lines e.value) ++ (next ++ 0 ∷ []))

module _ (profile : Profile) (bytes : List ℕ) (last : ℕ) (es : List EntryData) (e : EntryData) (c : Closed profile bytes es) (d : Closed profile (bytes ++ last ∷ []) (es ++ e ∷ [])) where
  abbrev entry : List ℕ
  entry = records e.path (print_lines e.value)

  lines : AreEntryLines profile e (print_lines e.value)
  lines = last_lines profile es e d.given d.entries

  given : d.given ≡ print_entries es ++ entry
  given = snap_is_print profile (es ++ e ∷ []) d.given d.entries ∙ entries_push es e

  -- With one byte less the entry would be closed already.
  none_behind : (back : List ℕ) → d.present ≡ d.path ++ 0 ∷ back → back ≡ []
  none_behind [] x = refl
  none_behind (b ∷ back) x =
      let l = last_byte b back in
      let begun = d.path ++ 0 ∷ l.0 in
      let present : d.present ≡ begun ++ l.1 ∷ [] = x ∙ ap (λ (t : List ℕ). d.path ++ 0 ∷ t) l.2 ∙ sym (append_assoc d.path (0 ∷ l.0) (l.1 ∷ [])) in
      let whole : bytes ++ last ∷ [] ≡ (d.given ++ begun) ++ l.1 ∷ [] = d.split ∙ ap (λ t. d.given ++ t) present ∙ sym (append_assoc d.given begun (l.1 ∷ [])) in
      let front : bytes ≡ d.given ++ begun = (push_one bytes (d.given ++ begun) last l.1 whole).0 in
      let both : print_entries es ++ c.present ≡ print_entries es ++ (entry ++ begun) =
      ap (λ t. t ++ c.present) (sym (snap_is_print profile es c.given c.entries)) ∙ sym c.split ∙ front ∙ ap (λ t. t ++ begun) given ∙ append_assoc (print_entries es) entry begun in
      absurd (
      other_path c.path e.path d.path l.0 c.of_path.begun c.of_path.lines (print_lines e.value) c.good (entry_path e) d.good (ends_last es e d.path d.other) c.of_path.plain
      (lines_plain profile e (print_lines e.value) lines) lines.some c.of_path.last
      (sym c.of_path.split ∙ append_cancel_left (print_entries es) c.present (entry ++ begun) both)
      )

  -- The byte that closes an entry is the NUL behind another path.
  pub entry_end : IsEntryEnd (bytes ++ last ∷ []) es e
  entry_end =
      let begun = d.begun (some_push es e) in
      let present : d.present ≡ d.path ++ 0 ∷ [] = begun.1 ∙ ap (λ (t : List ℕ). d.path ++ 0 ∷ t) (none_behind begun.0 begun.1) in
      record {
        next = d.path;
        good = d.good;
        plain = lines_lack_nul profile e (print_lines e.value) lines;
        split = d.split ∙ ap (λ t. t ++ d.present) given ∙ append_assoc (print_entries es) entry d.present ∙ ap (λ t. print_entries es ++ (entry ++ t)) present;
      }
