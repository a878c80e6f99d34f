-- What holds of raw lines that are read by a kind.
use Rattle.std.proofs.Common.{◌≡◌, ◌≢◌, ℕ, ◌+◌, ◌<◌, ◌≤◌, List, [], ◌∷◌, ◌++◌, Some, None, Ok, Err, inl, inr, length, take, drop, get_or, zero, suc, refl, sym, ◌∙◌, ap, subst, append_assoc, arith, length-append}
use Rattle.std.proofs.Math.Seq.{drop-cons, take-append_seam, take-append-add}
use Rattle.std.proofs.lemmas.List.{length-take-le, take-append-drop, take-append-le, take_all, take_more}
use Rattle.std.specs.List.{AllByRecursion}
use Rattle.cg_text.specs.Texts.{FirstBad, Lacks, Next, Viable}
use Rattle.cg_text.specs.TextsLaws.{lacks_inside}
use Rattle.cg_value.specs.Entry.{EntryData}
use Rattle.cg_value.specs.EntryLaws.{entry_has_line, entry_path, same_entry}
use Rattle.cg_value.specs.EntryRefusal.{IsEntryFault}
use Rattle.cg_value.specs.Files.{KindFile, KindText, ReadLines}
use Rattle.cg_value.specs.Lines.{unlines}
use Rattle.cg_value.specs.Print.{print_lines}
use Rattle.cg_value.specs.WholeLinesLaws.{can_end}
use Rattle.cg_value.specs.declared.entry.EntryFault.{EntryFault}
use Rattle.cg_value.specs.declared.kind.ReadForm.{ReadForm}
use Rattle.cg_value.specs.declared.profile.Profile.{Profile}
use Rattle.cg_value.specs.declared.value.Value.{Value}
use Rattle.cg_value.specs.declared.value.Value.TheVariants as value
use Rattle.cg_file.specs.OneValueLaws.{one_value}
use Rattle.cg_line.specs.Decode.{IsStarved}
use Rattle.cg_line.specs.HeldLaws.{lines_last}
use Rattle.cg_line.specs.MadeLaws.{entry_plain, no_fault, one_form}
use Rattle.cg_line.specs.Reads.{IsPushed, Reads, reads_viable}
use Rattle.cg_line.specs.Runs.{RunStops}
use Rattle.cg_line.specs.SplitLaws.{unlines-append, unlines-push}
use Rattle.cg_line.specs.Upgrading.{AreToRead, IsBadIn, IsLineTaken, IsLinesFault, IsUp, IsUpgraded, fault_in}
use Rattle.cg_line.specs.declared.push.PushFault.{PushFault}
use Rattle.cg_line.specs.declared.push.PushFault.TheVariants as push
use Rattle.cg_line.specs.declared.reader.ValueReader.{ValueReader}
use Rattle.cg_line.specs.declared.upgrading.UpgradeFault.{UpgradeFault}
use Rattle.cg_line.specs.declared.upgrading.UpgradeFault.TheVariants.{Line, OutOfMemory}

-- ---- The byte at which a text stops

module _ (L : List ℕ → Type 0) where
  bad_byte : (front more : List ℕ) (b : ℕ) → Viable L front → (Next L front b → ⊥) → FirstBad L (front ++ b ∷ more) (length front)
  bad_byte front more b viable none = record {
    within = omega (arith, length-append front (b ∷ more));
    before = rw (take-append_seam front (b ∷ more)) viable;
    after = λ goes. none (rw (take-append-add front (b ∷ more) 1) at goes);
  }

  starved_byte : (front more : List ℕ) (b : ℕ) → Next L front b → IsStarved L (front ++ b ∷ more)
  starved_byte front more b goes = record { at = length front; within = omega (arith, length-append front (b ∷ more)); goes = rw (take-append-add front (b ∷ more) 1) goes }

  bad_longer : (text more : List ℕ) (k : ℕ) → FirstBad L text k → FirstBad L (text ++ more) k
  bad_longer text more k h = record {
    within = omega (arith, length-append text more, h.within);
    before = rw (take-append-le k text more (omega (arith, h.within))) h.before;
    after = λ goes. h.after (rw (take-append-le (k + 1) text more (omega (arith, h.within))) at goes);
  }

  starved_longer : (text more : List ℕ) → IsStarved L text → IsStarved L (text ++ more)
  starved_longer text more h = record { at = h.at; within = omega (arith, length-append text more, h.within); goes = rw (take-append-le (h.at + 1) text more (omega (arith, h.within))) h.goes }

  -- ---- In a line

  module _ (before line : List ℕ) (used : ℕ) (within : used < length line) where
    text_at : before ++ (line ++ 10 ∷ []) ≡ (before ++ take used line) ++ get_or line used 0 ∷ (drop (suc used) line ++ 10 ∷ [])
    text_at =
        let parts : line ≡ take used line ++ get_or line used 0 ∷ drop (suc used) line = sym (take-append-drop used line) ∙ ap (λ t. take used line ++ t) (drop-cons line used 0 within) in
        ap (λ t. before ++ (t ++ 10 ∷ [])) parts ∙ ap (λ t. before ++ t) (append_assoc (take used line) (get_or line used 0 ∷ drop (suc used) line) (10 ∷ []))
        ∙ sym (append_assoc before (take used line) (get_or line used 0 ∷ (drop (suc used) line ++ 10 ∷ [])))

    place_at : length (before ++ take used line) ≡ length before + used
    place_at = omega (arith, length-append before (take used line), length-take-le used line (omega (arith, within)))

    bad_in_line : Viable L (before ++ take used line) → (Next L (before ++ take used line) (get_or line used 0) → ⊥) → FirstBad L (before ++ (line ++ 10 ∷ [])) (length before + used)
    bad_in_line viable none = rw (text_at, ← place_at) (bad_byte (before ++ take used line) (drop (suc used) line ++ 10 ∷ []) (get_or line used 0) viable none)

    starved_in_line : Next L (before ++ take used line) (get_or line used 0) → IsStarved L (before ++ (line ++ 10 ∷ []))
    starved_in_line goes = rw text_at (starved_byte (before ++ take used line) (drop (suc used) line ++ 10 ∷ []) (get_or line used 0) goes)

  bad_newline : (before line : List ℕ) → Viable L (before ++ line) → (Next L (before ++ line) 10 → ⊥) → FirstBad L (before ++ (line ++ 10 ∷ [])) (length before + length line)
  bad_newline before line viable none = rw (← append_assoc before line (10 ∷ []), ← length-append before line) (bad_byte (before ++ line) [] 10 viable none)

  starved_newline : (before line : List ℕ) → Next L (before ++ line) 10 → IsStarved L (before ++ (line ++ 10 ∷ []))
  starved_newline before line goes = rw (← append_assoc before line (10 ∷ [])) (starved_byte (before ++ line) [] 10 goes)

  -- ---- Among lines

  module _ (lines : List (List ℕ)) (i : ℕ) (within : i < length lines) where
    -- The lines up to one, and it.
    pub lines_to : unlines (take (i + 1) lines) ≡ unlines (take i lines) ++ (get_or lines i [] ++ 10 ∷ [])
    lines_to = ap unlines (take_more lines i [] within) ∙ unlines-push (take i lines) (get_or lines i [])

    lines_at : unlines lines ≡ (unlines (take i lines) ++ (get_or lines i [] ++ 10 ∷ [])) ++ unlines (drop (i + 1) lines)
    lines_at = ap unlines (sym (take-append-drop (i + 1) lines)) ∙ unlines-append (take (i + 1) lines) (drop (i + 1) lines) ∙ ap (λ t. t ++ unlines (drop (i + 1) lines)) lines_to

    pub bad_in_lines : (at : ℕ) → at ≤ length (get_or lines i []) → FirstBad L (unlines (take i lines) ++ (get_or lines i [] ++ 10 ∷ [])) (length (unlines (take i lines)) + at) → IsBadIn L lines i at
    bad_in_lines at in_line bad = record { within = within; in_line = in_line; bad = subst (λ text. FirstBad L text (length (unlines (take i lines)) + at)) (sym lines_at) (bad_longer _ (unlines (drop (i + 1) lines)) _ bad) }

    pub starved_in_lines : IsStarved L (unlines (take i lines) ++ (get_or lines i [] ++ 10 ∷ [])) → IsStarved L (unlines lines)
    starved_in_lines starved = subst (λ text. IsStarved L text) (sym lines_at) (starved_longer _ (unlines (drop (i + 1) lines)) starved)

-- ---- A line that a reader takes

module _ (kind : ReadForm) where
  -- A run that isn't stopped takes the whole line.
  pub line_run : (r : ValueReader) (before line : List ℕ) (used : ℕ) → Lacks 10 line → Reads r kind (before ++ take used line) → RunStops kind before line used None → Reads r kind (before ++ line)
  line_run r before line used plain h (inl stops) = subst (λ l. Reads r kind (before ++ l)) (take_all used line (omega (arith, stops.0))) h
  line_run r before line used plain h (inr stops) =
      let whole : line ≡ stops.0 ++ 10 ∷ drop used line = sym (take-append-drop used line) ∙ ap (λ t. t ++ drop used line) stops.1 ∙ append_assoc stops.0 (10 ∷ []) (drop used line) in
      absurd (lacks_inside 10 stops.0 (drop used line) (subst (Lacks 10) whole plain))

  -- Why a run stopped in a line is why the line was not taken.
  pub line_stopped : (r r' : ValueReader) (before line : List ℕ) (number used : ℕ) (fault : PushFault) → Reads r kind (before ++ take used line) → RunStops kind before line used (Some fault) →
      IsLineTaken kind r' before number line (Err (fault_in fault number used))
  line_stopped r r' before line number used push.Refused h stops = (refl, omega (arith, stops.0), bad_in_line (KindFile kind) before line used stops.0 (reads_viable r kind _ h) stops.2)
  line_stopped r r' before line number used push.OutOfMemory h stops = starved_in_line (KindFile kind) before line used stops.0 stops.2

  pub newline_stopped : (r r' : ValueReader) (before line : List ℕ) (number : ℕ) (fault : PushFault) → IsPushed r kind (before ++ line) 10 (Err fault) → IsLineTaken kind r' before number line (Err (fault_in fault number (length line)))
  newline_stopped r r' before line number push.Refused h = (refl, omega arith, bad_newline (KindFile kind) before line (reads_viable r kind _ h.0) h.1)
  newline_stopped r r' before line number push.OutOfMemory h = starved_newline (KindFile kind) before line h.1

  plain_at : (lines : List (List ℕ)) (i : ℕ) → i < length lines → AllByRecursion (Lacks 10) lines → Lacks 10 (get_or lines i [])
  plain_at [] i within plain = absurd (omega (arith, within))
  plain_at (line ∷ lines) zero within plain = plain.0
  plain_at (line ∷ lines) (suc i) within plain = plain_at lines i (omega (arith, within)) plain.1

  -- The line that comes has no newline, and with it the lines so far are one more.
  module _ (lines : List (List ℕ)) (i : ℕ) (line : List ℕ) (within : i < length lines) (is : line ≡ get_or lines i []) where
    pub next_plain : AllByRecursion (Lacks 10) lines → Lacks 10 line
    next_plain plain = rw is (plain_at lines i within plain)

    pub next_taken : (r : ValueReader) → Reads r kind (unlines (take i lines) ++ (line ++ 10 ∷ [])) → Reads r kind (unlines (take (i + 1) lines))
    next_taken r h = rw (lines_to (KindFile kind) lines i within, ← is) h

    -- Why it was not taken is why not all lines were.
    pub next_stopped : (r : ValueReader) (fault : UpgradeFault) → IsLineTaken kind r (unlines (take i lines)) i line (Err fault) → IsLinesFault kind lines fault
    next_stopped r fault h = stopped fault (subst (λ l. IsLineTaken kind r (unlines (take i lines)) i l (Err fault)) is h)
      where
        stopped : (fault : UpgradeFault) → IsLineTaken kind r (unlines (take i lines)) i (get_or lines i []) (Err fault) → IsLinesFault kind lines fault
        stopped (Line n at) h = subst (λ k. IsBadIn (KindFile kind) lines k at) (sym h.0) (bad_in_lines (KindFile kind) lines i within at h.1 h.2)
        stopped OutOfMemory h = starved_in_lines (KindFile kind) lines i within h

-- ---- Whole lines

lines_some : (lines : List (List ℕ)) → lines ≢ [] → 0 < length (unlines lines)
lines_some [] some = absurd (some refl)
lines_some (line ∷ lines) some = omega (arith, length-append line (10 ∷ unlines lines))

-- Lines can end after each.
pub lines_whole : (kind : ReadForm) (lines : List (List ℕ)) → lines ≢ [] → Viable (KindFile kind) (unlines lines) → KindFile kind (unlines lines)
lines_whole kind lines some viable = elim (lines_last lines) [
  | inl none ↦ absurd (omega (arith, lines_some lines some, ap length none))
  | inr last ↦ rw last.1 (can_end kind last.0 (rw last.1 at viable))
]

-- What stands at the front of a file begins one.
front_viable : (kind : ReadForm) (lines : List (List ℕ)) (v : Value) → ReadLines kind v lines → (k : ℕ) → Viable (KindFile kind) (take k (unlines lines))
front_viable kind lines v spelled k = record {
  rest = drop k (unlines lines);
  whole = subst (KindFile kind) (sym (take-append-drop k (unlines lines))) (v, record { lines = lines; spelled = spelled; text_is = refl });
}

-- ---- Entries

pub same_lines : (ls ms : List (List ℕ)) → value.Raw ls ≡ value.Raw ms → ls ≡ ms
same_lines ls ms e = cc

module _ (to : Profile) (e : EntryData) (kind : ReadForm) (lines : List (List ℕ)) (read : AreToRead to e kind lines) where
  -- The lines and their kind are one.
  pub one_kind : (k : ReadForm) (ls : List (List ℕ)) → AreToRead to e k ls → kind ≡ k
  one_kind k ls other = one_form to e.path kind k read.reads other.reads

  pub one_lines : (k : ReadForm) (ls : List (List ℕ)) → AreToRead to e k ls → lines ≡ ls
  one_lines k ls other = same_lines lines ls (sym read.raw ∙ other.raw)

  -- No raw line has a newline.
  pub raw_plain : AllByRecursion (Lacks 10) lines
  raw_plain = subst (λ v. AllByRecursion (Lacks 10) (print_lines v)) read.raw (entry_plain e)

  pub raw_some : lines ≢ []
  raw_some none = entry_has_line e (ap print_lines read.raw ∙ none)

  pub never_refused : (path : List ℕ) (v : Value) (why : EntryFault) → path ≡ e.path → ReadLines kind v lines → IsEntryFault to path v why → ⊥
  never_refused path v why same spelled fault = no_fault to e.path kind v lines why (entry_path e) read.reads raw_some spelled (subst (λ p. IsEntryFault to p v why) same fault)

  none_up : (line at : ℕ) → IsBadIn (KindFile kind) lines line at → (f : EntryData) → IsUp to e f → ⊥
  none_up line at bad f up = bad.bad.after (front_viable kind lines f.value (up.read kind lines read).1 (length (unlines (take line lines)) + at + 1))

  -- Why the lines were not read is why there is no such entry, or it wants memory.
  pub lines_fault : (fault : UpgradeFault) → IsLinesFault kind lines fault → IsUpgraded to e (Err fault)
  lines_fault (Line line at) bad = record { kind = kind; lines = lines; read = read; bad = bad; no_up = none_up line at bad }
  lines_fault OutOfMemory starved = λ k ls other. subst (λ ms. IsStarved (KindFile k) (unlines ms)) (one_lines k ls other) (subst (λ l. IsStarved (KindFile l) (unlines lines)) (one_kind k ls other) starved)

  -- Where the lines were read, a file goes on with each of their bytes.
  pub file_starved : (v : Value) → ReadLines kind v lines → IsLinesFault kind lines OutOfMemory
  file_starved v spelled = record { at = 0; within = lines_some lines raw_some; goes = front_viable kind lines v spelled 1 }

  -- The entry with what they spell is this one in the profile.
  pub read_up : (f : EntryData) → f.path ≡ e.path → ReadLines kind f.value lines → IsUp to e f
  read_up f same spelled = record {
    read = λ k ls other. (same, subst (λ ms. ReadLines k f.value ms) (one_lines k ls other) (subst (λ l. ReadLines l f.value lines) (one_kind k ls other) spelled));
    same = λ none. absurd (none kind lines read);
  }

  file_of : (v : Value) → ReadLines kind v lines → KindText kind v (unlines lines)
  file_of v spelled = record { lines = lines; spelled = spelled; text_is = refl }

  pub up_once : (f g : EntryData) → IsUp to e f → IsUp to e g → g ≡ f
  up_once f g one other =
      let a = one.read kind lines read in
      let b = other.read kind lines read in
      same_entry g f (b.0 ∙ sym a.0) (one_value kind (unlines lines) g.value f.value (file_of g.value b.1) (file_of f.value a.1))

  pub read_upgraded : (f : EntryData) → f.path ≡ e.path → ReadLines kind f.value lines → IsUpgraded to e (Ok f)
  read_upgraded f same spelled = let up = read_up f same spelled in (up, λ g. up_once f g up)
