-- What a reader of a snapshot tells that is gone on with.
use Rattle.std.specs.Prelude.{MatchOption, Ok, OnOk, Result, is_some}
use Rattle.std.proofs.Common.{◌≡◌, ◌≢◌, ℕ, ◌+◌, ◌-◌, ◌<◌, ◌≤◌, Bool, List, [], ◌∷◌, ◌++◌, Option, Some, None, Err, true, false, not, length, take, get_or, inl, inr, refl, sym, ap, subst, ◌∙◌, append-nil, append_assoc, arith}
use Rattle.std.proofs.lemmas.Grind.{flat_map-append}
use Rattle.std.proofs.lemmas.List.{length-append, take_more}
use Rattle.std.specs.Bool.{MatchBool}
use Rattle.std.specs.List.{AllByRecursion, flat_map}
use Rattle.cg_text.specs.Token.{saturated}
use Rattle.cg_value.specs.Entry.{EntryData}
use Rattle.cg_value.specs.declared.profile.Profile.{Profile}
use Rattle.cg_snap.specs.Begun.{IsRecordEnd}
use Rattle.cg_snap.specs.Snap.{Snap}
use Rattle.cg_snap.specs.GoingOn.{AreAllTold, AreToldBy, IsAtFault, Told, stream_limits, told_by, told_entry, told_out}
use Rattle.cg_snap.specs.declared.decode.StreamFault.TheVariants as faults
use Rattle.cg_snap.specs.GoingOnState.{HaveFaults, IsBefore, IsFaultOf}
use Rattle.cg_snap.specs.declared.fault.Fault.{Fault}
use Rattle.cg_snap.specs.declared.going_on.Cause.{Cause}
use Rattle.cg_snap.specs.declared.going_on.Cause.TheVariants as causes
use Rattle.cg_snap.specs.declared.going_on.Found.{Found}
use Rattle.cg_snap.specs.declared.going_on.LeftOut.{LeftOut}
use Rattle.cg_snap.specs.declared.limits.Limits.{Limits}
use Rattle.cg_snap.specs.declared.stop.Stop.{Stop}
use Rattle.cg_snap.specs.declared.stop.Stop.TheVariants as stops
use Rattle.cg_snap.specs.declared.stop.Why.{Why}
use Rattle.cg_snap.specs.GoingOnDecoder.{GoingFinishIs, GoingOnDecoder, going_form_of}
use Rattle.cg_snap.specs.declared.decode.StreamFault.{StreamFault}
use Rattle.cg_snap.specs.declared.event.Event.{Event}
use Rattle.cg_snap.specs.declared.event.Event.TheVariants as events
use Rattle.cg_snap.proofs.GoingOnFound.{fault_ends}
use Rattle.cg_snap.proofs.GoingOnTakes.{faults_last}
use Rattle.cg_tree.specs.Ruled.{ruled}
use Rattle.cg_run.specs.Check.{finding_lines}
use Rattle.cg_run.specs.Checked.{IsKept}
use Rattle.cg_outcome.specs.Explain.{AreNext, Explains, IsInRecord}
use Rattle.cg_run.specs.GoneOn.{AllOf, ExplainsCause, ExplainsFault, ExplainsTold, GoingStopOf, IsGoingUnstopped, Telling, TellsParts, checked_outcome, entries_of, entry_of, explained_part, how_many, left_out_of, told_found, told_of, told_outcome}
use Rattle.cg_run.specs.GoneOnReader.{EndsOnBy, ExplainsOut, HasEndedOn, HasGoneOn, HasTakenOn, IsFaultAt, IsUntold}
use Rattle.cg_outcome.specs.Lines.{AreBehind, AreCounted}
use Rattle.cg_outcome.specs.Outcome.{checked, gone_on}
use Rattle.cg_outcome.specs.Wrote.{joined}
use Rattle.cg_run.specs.Streaming.{EndIs, FoundIs, HasNoWhole, HasWhole, IsCutAt, IsEndFault}
use Rattle.cg_run.specs.Taken.{taken_unstopped}
use Rattle.cg_run.specs.declared.going_on.Ended.{Ended}
use Rattle.cg_run.specs.declared.going_on.GoingOnReader.{GoingOnReader}
use Rattle.cg_run.specs.declared.kept.Kept.{Kept}
use Rattle.cg_outcome.specs.declared.lines.Lines.{Lines}
use Rattle.cg_outcome.specs.declared.outcome.Outcome.{Outcome}
use Rattle.cg_run.proofs.Checking.{lines_of_ruled}
use Rattle.cg_run.proofs.Finds.{no_more}
use Rattle.cg_run.proofs.Keeping.{given_starved, unstopped_front}

-- ---- How many blocks were left out

pub how_many_both : (told more : List Told) → how_many (told ++ more) ≡ how_many told + how_many more
how_many_both [] more = omega arith
how_many_both (inl e ∷ told) more = how_many_both told more
how_many_both (inr out ∷ told) more = let both = how_many_both told more in omega (arith, both)

how_many_entry : (e : Option EntryData) → how_many (told_entry e) ≡ 0
how_many_entry None = refl
how_many_entry (Some e) = refl

-- None more with an entry.
pub count_entry : (told : List Told) (e : Option EntryData) → left_out_of (told ++ told_entry e) ≡ left_out_of told
count_entry told e =
    let both = how_many_both told (told_entry e) in
    let none = how_many_entry e in
    let same : how_many (told ++ told_entry e) ≡ how_many told = omega (arith, both, none) in
    ap saturated same

pub count_found : (told : List Told) (f : Found) → left_out_of (told ++ told_found f) ≡ left_out_of (told ++ told_out f.left_out)
count_found told f =
    let all = how_many_both told (told_entry f.entry ++ told_out f.left_out) in
    let back = how_many_both (told_entry f.entry) (told_out f.left_out) in
    let out = how_many_both told (told_out f.left_out) in
    let none = how_many_entry f.entry in
    let same : how_many (told ++ (told_entry f.entry ++ told_out f.left_out)) ≡ how_many (told ++ told_out f.left_out) = omega (arith, all, back, out, none) in
    ap saturated same

pub count_out : (told : List Told) (out : LeftOut) (before after : ℕ) → before ≡ left_out_of told → after ≡ saturated (before + 1) → after ≡ left_out_of (told ++ inr out ∷ [])
count_out told out before after e f =
    let both = how_many_both told (inr out ∷ []) in
    let one : how_many (inr out ∷ []) ≡ 1 = refl in
    omega (arith, e, f, both, one)

-- No entry more with what is left out, and one with an entry.
pub entries_out : (told : List Told) (out : LeftOut) → entries_of (told ++ inr out ∷ []) ≡ entries_of told
entries_out told out = flat_map-append entry_of told (inr out ∷ []) ∙ append-nil (entries_of told)

pub entries_push : (told : List Told) (e : EntryData) → entries_of (told ++ inl e ∷ []) ≡ entries_of told ++ e ∷ []
entries_push told e = flat_map-append entry_of told (inl e ∷ [])

-- ---- What is told of one thing more

pub told_push : (found : List Found) (f : Found) → told_by (found ++ f ∷ []) ≡ told_by found ++ told_found f
told_push [] f = append-nil (told_found f)
told_push (g ∷ found) f = ap (λ (t : List Told). told_found g ++ t) (told_push found f) ∙ sym (append_assoc (told_found g) (told_by found) (told_found f))

joined_both : (a b : List (List ℕ)) → joined (a ++ b) ≡ joined a ++ joined b
joined_both [] b = refl
joined_both (x ∷ a) b = ap (λ (t : List ℕ). x ++ t) (joined_both a b) ∙ sym (append_assoc x (joined a) (joined b))

-- A text, and then more.
pub text_push : (old mid new : List ℕ) (a b : List (List ℕ)) → mid ≡ old ++ joined a → new ≡ mid ++ joined b → new ≡ old ++ joined (a ++ b)
text_push old mid new a b e f = f ∙ ap (λ (t : List ℕ). t ++ joined b) e ∙ append_assoc old (joined a) (joined b) ∙ ap (λ (t : List ℕ). old ++ t) (sym (joined_both a b))

-- One thing alone.
pub some_single : (part : Told → List (List ℕ)) (t : Told) → part t ≢ [] → flat_map part (t ∷ []) ≢ []
some_single part t some e = some (sym (append-nil (part t)) ∙ e)

pub some_text : (ps : List (List ℕ)) (text : List ℕ) → text ≡ joined ps → 0 < length text → ps ≢ []
some_text ps text e some none = absurd (omega (arith, some, ap length (e ∙ ap joined none)))

-- ---- What is told, and the lines that explain it

pub told_both : (ts us : List Telling) → told_of (ts ++ us) ≡ told_of ts ++ told_of us
told_both [] us = refl
told_both (t ∷ ts) us = ap (λ (x : List Told). t.told ∷ x) (told_both ts us)

pub all_both : {X : Type 0} (P : X → Type 0) (xs ys : List X) → AllByRecursion P xs → AllByRecursion P ys → AllByRecursion P (xs ++ ys)
all_both P [] ys p q = q
all_both P (x ∷ xs) ys p q = (p.0, all_both P xs ys p.1 q)

-- An entry isn't explained.
abbrev entry_tellings : Option EntryData → List Telling
entry_tellings None = []
entry_tellings (Some e) = record { told = inl e; lines = [] } ∷ []

abbrev out_tellings : Option LeftOut → List (List ℕ) → List Telling
out_tellings None lines = []
out_tellings (Some out) lines = record { told = inr out; lines = lines } ∷ []

entry_told : (e : Option EntryData) → told_of (entry_tellings e) ≡ told_entry e
entry_told None = refl
entry_told (Some e) = refl

out_told : (o : Option LeftOut) (lines : List (List ℕ)) → told_of (out_tellings o lines) ≡ told_out o
out_told None lines = refl
out_told (Some out) lines = refl

entry_parts : (part : Told → List (List ℕ)) (e : Option EntryData) → flat_map (explained_part part) (entry_tellings e) ≡ flat_map part (told_entry e)
entry_parts part None = refl
entry_parts part (Some e) = ap (λ (ps : List (List ℕ)). ps ++ []) (append-nil (part (inl e)))

-- With an entry at last.
pub told_last : (ts : List Telling) (e : Option EntryData) → told_of (ts ++ entry_tellings e) ≡ told_of ts ++ told_entry e
told_last ts e = told_both ts (entry_tellings e) ∙ ap (λ (t : List Told). told_of ts ++ t) (entry_told e)

parts_last : (part : Told → List (List ℕ)) (ts : List Telling) (e : Option EntryData) → flat_map (explained_part part) (ts ++ entry_tellings e) ≡ flat_map (explained_part part) ts ++ flat_map part (told_entry e)
parts_last part ts e = flat_map-append (explained_part part) ts (entry_tellings e) ∙ ap (λ (ps : List (List ℕ)). flat_map (explained_part part) ts ++ ps) (entry_parts part e)

module _ (profile : Profile) (limits : Limits) where
  abbrev Explained : Bool → List ℕ → List Telling → Type 0
  Explained explain bytes ts = AllByRecursion (λ t. ExplainsTold profile limits explain bytes t.told t.lines) ts

  entry_explained : (explain : Bool) (bytes : List ℕ) (e : Option EntryData) → Explained explain bytes (entry_tellings e)
  entry_explained explain bytes None = tt
  entry_explained true bytes (Some e) = (refl, tt)
  entry_explained false bytes (Some e) = (refl, tt)

  out_explained : (explain : Bool) (bytes : List ℕ) (o : Option LeftOut) (lines : List (List ℕ)) → ExplainsOut explain profile limits bytes o lines → Explained explain bytes (out_tellings o lines)
  out_explained explain bytes None lines h = tt
  out_explained explain bytes (Some out) lines h = (h, tt)

  out_parts : (part : Told → List (List ℕ)) (explain : Bool) (bytes : List ℕ) (o : Option LeftOut) (lines : List (List ℕ)) → ExplainsOut explain profile limits bytes o lines → flat_map (explained_part part) (out_tellings o lines) ≡ flat_map part (told_out o) ++ lines
  out_parts part explain bytes None lines h = sym h
  out_parts part explain bytes (Some out) lines h = append-nil (part (inr out) ++ lines) ∙ ap (λ (ps : List (List ℕ)). ps ++ lines) (sym (append-nil (part (inr out))))

  -- ---- With more bytes

  fault_more : (bytes more : List ℕ) (out : LeftOut) (line : List ℕ) → ExplainsFault profile limits bytes out line → ExplainsFault profile limits (bytes ++ more) out line
  fault_more bytes more out line h = record {
    before = h.before;
    block = h.block;
    byte = h.byte;
    at_fault = record {
      front = h.at_fault.front;
      path = h.at_fault.path;
      blocks = h.at_fault.blocks;
      follows = h.at_fault.follows;
      left_out = h.at_fault.left_out;
      at = h.at_fault.at;
      rest = h.at_fault.rest ++ more;
      split = ap (λ (t : List ℕ). t ++ more) h.at_fault.split
          ∙ (append_assoc h.at_fault.front (h.block ++ h.byte ∷ h.at_fault.rest) more ∙ ap (λ (t : List ℕ). h.at_fault.front ++ t) (append_assoc h.block (h.byte ∷ h.at_fault.rest) more));
    };
    explains = h.explains;
  }

  cause_more : (bytes more : List ℕ) (out : LeftOut) (cause : Cause) (lines : List (List ℕ)) → ExplainsCause profile limits bytes out cause lines → ExplainsCause profile limits (bytes ++ more) out cause lines
  cause_more bytes more out (causes.Refused why) lines h = (h.0, fault_more bytes more out (h.0) h.1, h.2)
  cause_more bytes more out causes.TooLong lines h = h
  cause_more bytes more out causes.TooMany lines h = h

  told_more : (explain : Bool) (bytes more : List ℕ) (t : Told) (lines : List (List ℕ)) → ExplainsTold profile limits explain bytes t lines → ExplainsTold profile limits explain (bytes ++ more) t lines
  told_more false bytes more t lines h = h
  told_more true bytes more (inl e) lines h = h
  told_more true bytes more (inr out) lines h = cause_more bytes more out out.cause lines h

  pub explained_more : (explain : Bool) (bytes more : List ℕ) (ts : List Telling) → Explained explain bytes ts → Explained explain (bytes ++ more) ts
  explained_more explain bytes more [] h = tt
  explained_more explain bytes more (t ∷ ts) h = (told_more explain bytes more t.told t.lines h.0, explained_more explain bytes more ts h.1)

  explained_last : (explain : Bool) (bytes : List ℕ) (ts : List Telling) (e : Option EntryData) → Explained explain bytes ts → Explained explain bytes (ts ++ entry_tellings e)
  explained_last explain bytes ts e h = all_both (λ (t : Telling). ExplainsTold profile limits explain bytes t.told t.lines) ts (entry_tellings e) h (entry_explained explain bytes e)

  -- ---- What is at fault with a byte

  pub fault_at : (q : List ℕ) (c : ℕ) (told : List Told) (f : Found) → AreToldBy profile limits q told → IsFaultOf profile limits (q ++ c ∷ []) (told ++ told_entry f.entry) f.left_out f.fault → IsFaultAt profile limits q c f.left_out f.fault
  fault_at q c told f closed x = by f.left_out f.fault x
    where
      before : List Told
      before = told ++ told_entry f.entry

      by : (o : Option LeftOut) (fault : Option Fault) → IsFaultOf profile limits (q ++ c ∷ []) before o fault → IsFaultAt profile limits q c o fault
      by None fault y = tt
      by (Some out) None y = absurd y
      by (Some out) (Some fault) y =
          let ends = fault_ends profile limits q c told before (told_entry f.entry) refl closed out (y.0) (y.1) y.2 in
          let last = subst (λ (b : ℕ). (h : IsAtFault profile limits (q ++ c ∷ []) before out (y.0) b) × (h.front ++ y.0 ≡ q) × IsBefore fault profile (y.0)) ends.1 (y.2, ends.0, y.3) in
          (before, y.0, last.0, last.1, last.2)

  -- ---- The line of what is left out

  module _ (q : List ℕ) (c : ℕ) (out : LeftOut) (fault : Fault) (f : IsFaultAt profile limits q c (Some out) (Some fault)) where
    pub fault_length : out.at ≡ length (f.2.front ++ f.1)
    fault_length = f.2.at ∙ sym (length-append f.2.front (f.1))

    pub fault_counted : (lines : Lines) → AreCounted lines q → AreCounted lines (f.2.front ++ f.1)
    fault_counted lines h = subst (AreCounted lines) (sym f.3) h

    pub fault_explained : (why : Why) (line : List ℕ) → out.cause ≡ causes.Refused why → Explains (λ p set. AreNext (Snap profile) (f.1) set) IsInRecord (f.2.front ++ f.1) (Some c) line → ExplainsOut true profile limits (q ++ c ∷ []) (Some out) (line ∷ [])
    fault_explained why line e h =
        subst (λ (cause : Cause). ExplainsCause profile limits (q ++ c ∷ []) out cause (line ∷ [])) (sym e) (line, record { before = f.0; block = f.1; byte = c; at_fault = f.2; explains = h }, refl)

-- Of an answer this follows too.
pub ok_as : {X E : Type 0} (r : Result X E) (A B : Type 0) → (A → B) → OnOk r A → OnOk r B
ok_as (Ok x) A B f h = f h
ok_as (Err e) A B f h = h

-- Where there is nothing, this follows too.
pub option_as : {X : Type 0} (o : Option X) (A B : Type 0) (P : X → Type 0) → (A → B) → MatchOption o A P → MatchOption o B P
option_as None A B P f h = f h
option_as (Some x) A B P f h = h

-- ---- What was found is told

module _ {T : Type 0} (part : Told → List (List ℕ)) (Keeps : T → List Told → Type 0) where
  -- The entry, and then what is left out, and what explains it.
  pub give_text : (f : Found) (t0 t1 t2 t3 old new : List ℕ) (more : List (List ℕ)) → t0 ≡ [] → t1 ≡ t0 ++ joined (flat_map part (told_entry f.entry)) → t2 ≡ t1 ++ joined (flat_map part (told_out f.left_out)) → t3 ≡ t2 ++ joined more → new ≡ old ++ t3 →
      new ≡ old ++ joined (flat_map part (told_found f) ++ more)
  give_text f t0 t1 t2 t3 old new more e g h m k =
      let entry = flat_map part (told_entry f.entry) in
      let out = flat_map part (told_out f.left_out) in
      let first : t1 ≡ [] ++ joined entry = g ∙ ap (λ (t : List ℕ). t ++ joined entry) e in
      let both : t3 ≡ [] ++ joined ((entry ++ out) ++ more) = text_push [] t2 t3 (entry ++ out) more (text_push [] t1 t2 entry out first h) m in
      k ∙ ap (λ (t : List ℕ). old ++ t) (both ∙ ap (λ (ps : List (List ℕ)). joined (ps ++ more)) (sym (flat_map-append part (told_entry f.entry) (told_out f.left_out))))

  pub give_keeps : (t : T) (told : List Told) (f : Found) → Keeps t ((told ++ told_entry f.entry) ++ told_out f.left_out) → Keeps t (told ++ told_found f)
  give_keeps t told f h = subst (Keeps t) (append_assoc told (told_entry f.entry) (told_out f.left_out)) h

  module _ (form : Profile × Limits) (explain : Bool) (p piece : List ℕ) (used : ℕ) (parts : List (List ℕ)) where
    abbrev Found_is : GoingOnReader T → List ℕ → List ℕ → Event (Unit {0}) → Type 0
    Found_is now old new what = FoundIs (TellsParts part explain (form.0) (form.1)) (IsGoingUnstopped (form.1)) (HasGoneOn part Keeps now form explain) (GoingStopOf (form.1)) p parts piece used old new what

    -- What was told is what more bytes tell.
    pub closes_on : (s : GoingOnReader T) (h : HasGoneOn part Keeps s form explain p parts) (n : ℕ) → AreToldBy (form.0) (form.1) (p ++ take n piece) (told_by h.found) → TellsParts part explain (form.0) (form.1) (p ++ take n piece) parts
    closes_on s h n told = (
      h.tellings,
      record { told = subst (AreToldBy (form.0) (form.1) (p ++ take n piece)) (sym h.told_are) told; explained = explained_more (form.0) (form.1) explain p (take n piece) h.tellings h.explained },
      h.parts_are,
    )

    -- Nothing more was found.
    pub found_none : (s now : GoingOnReader T) (h : HasGoneOn part Keeps s form explain p parts) → HasTakenOn now.decoder form (p ++ take used piece) h.found → now.left_out ≡ s.left_out → now.teller ≡ s.teller → AreBehind now.lines (p ++ take used piece) → is_some now.lines ≡ is_some s.lines →
        HasGoneOn part Keeps now form explain (p ++ take used piece) parts
    found_none s now h taken same teller lines counted = record {
      found = h.found;
      taken = taken;
      tellings = h.tellings;
      told_are = h.told_are;
      explained = explained_more (form.0) (form.1) explain p (take used piece) h.tellings h.explained;
      parts_are = h.parts_are;
      counts = same ∙ h.counts;
      keeps = subst (λ (t : T). Keeps t (told_by h.found)) (sym teller) h.keeps;
      lines = lines;
      explain_is = counted ∙ h.explain_is;
    }

    pub given_found : (s now : GoingOnReader T) (old new : List ℕ) (f : Found) (more : List (List ℕ)) (h : HasGoneOn part Keeps s form explain p parts) → HasTakenOn now.decoder form (p ++ take used piece) (h.found ++ f ∷ []) →
        new ≡ old ++ joined (flat_map part (told_found f) ++ more) → ExplainsOut explain (form.0) (form.1) (p ++ take used piece) f.left_out more → Keeps now.teller (told_by h.found ++ told_found f) →
        now.left_out ≡ left_out_of (told_by h.found ++ told_found f) → AreBehind now.lines (p ++ take used piece) → is_some now.lines ≡ explain → Found_is now old new (events.Given tt)
    given_found s now old new f more h taken text tells keeps counts lines counted =
        let all = sym (told_push h.found f) in
        let entry = entry_tellings f.entry in
        let out = out_tellings f.left_out more in
        let bytes = p ++ take used piece in
        record {
          more = flat_map part (told_found f) ++ more;
          out_is = text;
          leads = record {
            found = h.found ++ f ∷ [];
            taken = taken;
            tellings = h.tellings ++ (entry ++ out);
            told_are = told_both h.tellings (entry ++ out) ∙ ap (λ (t : List Told). told_of h.tellings ++ t) (told_both entry out ∙ ap (λ (t : List Told). t ++ told_of out) (entry_told f.entry) ∙ ap (λ (t : List Told). told_entry f.entry ++ t) (out_told f.left_out more))
                ∙ ap (λ (t : List Told). t ++ told_found f) h.told_are ∙ all;
            explained = all_both (λ (t : Telling). ExplainsTold (form.0) (form.1) explain bytes t.told t.lines) h.tellings (entry ++ out) (explained_more (form.0) (form.1) explain p (take used piece) h.tellings h.explained)
                (all_both (λ (t : Telling). ExplainsTold (form.0) (form.1) explain bytes t.told t.lines) entry out (entry_explained (form.0) (form.1) explain bytes f.entry) (out_explained (form.0) (form.1) explain bytes f.left_out more tells));
            parts_are = ap (λ (ps : List (List ℕ)). ps ++ (flat_map part (told_found f) ++ more)) h.parts_are ∙ ap (λ (ps : List (List ℕ)). flat_map (explained_part part) h.tellings ++ ps) (given_parts f more tells) ∙ sym (flat_map-append (explained_part part) h.tellings (entry ++ out));
            counts = counts ∙ ap left_out_of all;
            keeps = subst (Keeps now.teller) all keeps;
            lines = lines;
            explain_is = counted;
          };
        }
      where
        given_parts : (f : Found) (more : List (List ℕ)) → ExplainsOut explain (form.0) (form.1) (p ++ take used piece) f.left_out more →
            flat_map part (told_found f) ++ more ≡ flat_map (explained_part part) (entry_tellings f.entry ++ out_tellings f.left_out more)
        given_parts f more tells =
            let entry = flat_map part (told_entry f.entry) in
            let out = flat_map part (told_out f.left_out) in
            ap (λ (ps : List (List ℕ)). ps ++ more) (flat_map-append part (told_entry f.entry) (told_out f.left_out)) ∙ append_assoc entry out more
            ∙ ap (λ (ps : List (List ℕ)). ps ++ (out ++ more)) (sym (entry_parts part f.entry)) ∙ ap (λ (ps : List (List ℕ)). flat_map (explained_part part) (entry_tellings f.entry) ++ ps) (sym (out_parts (form.0) (form.1) part explain (p ++ take used piece) f.left_out more tells))
            ∙ sym (flat_map-append (explained_part part) (entry_tellings f.entry) (out_tellings f.left_out more))

    pub starved_found : (s now : GoingOnReader T) (d : GoingOnDecoder) (old new : List ℕ) (f : Found) (h : HasGoneOn part Keeps s form explain p parts) → 0 < used → used ≤ length piece → HasTakenOn d form (p ++ take used piece) (h.found ++ f ∷ []) →
        AreToldBy (form.0) (form.1) (p ++ take (used - 1) piece) (told_by h.found) → new ≡ old →
        FoundIs (TellsParts part explain (form.0) (form.1)) (IsGoingUnstopped (form.1)) (HasGoneOn part Keeps now form explain) (GoingStopOf (form.1)) p parts piece (used - 1) old new events.OutOfMemory
    starved_found s now d old new f h some within taken closed same =
        no_more same (given_starved (TellsParts part explain (form.0) (form.1)) (IsGoingUnstopped (form.1)) (λ x y u. unstopped_front _ _ _ _ _ x y u) p piece used parts some within
        (taken_unstopped d form (stream_limits (form.1)) (p ++ take used piece) (h.found ++ f ∷ []) taken) (closes_on s h (used - 1) closed))

    -- What is at fault with the last byte.
    pub found_fault : (d : GoingOnDecoder) (found : List Found) (f : Found) (c : ℕ) → HasTakenOn d form (p ++ take used piece) (found ++ f ∷ []) → AreToldBy (form.0) (form.1) (p ++ take (used - 1) piece) (told_by found) →
        p ++ take used piece ≡ (p ++ take (used - 1) piece) ++ c ∷ [] → IsFaultAt (form.0) (form.1) (p ++ take (used - 1) piece) c f.left_out f.fault
    found_fault d found f c taken closed text =
        let faults : HaveFaults (form.0) (form.1) (p ++ take used piece) [] (found ++ f ∷ []) = subst (λ (q : Profile × Limits). HaveFaults (q.0) (q.1) (p ++ take used piece) [] (found ++ f ∷ [])) taken.form_is taken.stands.state.faults in
        let last = faults_last (form.0) (form.1) (p ++ take used piece) [] found f faults in
        fault_at (form.0) (form.1) (p ++ take (used - 1) piece) c (told_by found) f closed (subst (λ (t : List ℕ). IsFaultOf (form.0) (form.1) t (told_by found ++ told_entry f.entry) f.left_out f.fault) text last)

    pub last_byte : 0 < used → used ≤ length piece → p ++ take used piece ≡ (p ++ take (used - 1) piece) ++ get_or piece (used - 1) 0 ∷ []
    last_byte some within =
        let next : used - 1 + 1 ≡ used = omega (arith, some) in
        ap (λ (n : ℕ). p ++ take n piece) (sym next) ∙ ap (λ (t : List ℕ). p ++ t) (take_more piece (used - 1) 0 (omega (arith, some, within))) ∙ sym (append_assoc p (take (used - 1) piece) (get_or piece (used - 1) 0 ∷ []))

  -- ---- The end of the input

  module _ (s : GoingOnReader T) (form : Profile × Limits) (explain : Bool) (p : List ℕ) (parts : List (List ℕ)) (h : HasGoneOn part Keeps s form explain p parts) where
    told_all : (last : Option EntryData) → GoingFinishIs ((going_form_of s.decoder).0) ((going_form_of s.decoder).1) p h.found (Ok last) → AreAllTold (form.0) (form.1) p (told_of h.tellings ++ told_entry last)
    told_all last f =
        subst (λ (t : List Told). AreAllTold (form.0) (form.1) p (t ++ told_entry last)) (sym h.told_are) (subst (λ (q : Profile × Limits). AreAllTold (q.0) (q.1) p (told_by h.found ++ told_entry last)) h.taken.form_is f)

    pub ended_told : (e : Ended T) (last : Option EntryData) → GoingFinishIs ((going_form_of s.decoder).0) ((going_form_of s.decoder).1) p h.found (Ok last) → e.text.items ≡ joined (flat_map part (told_entry last)) →
        Keeps e.teller (told_by h.found ++ told_entry last) → e.left_out ≡ s.left_out → HasEndedOn part Keeps e form explain p parts
    ended_told e last f text keeps same =
        let told : told_by h.found ++ told_entry last ≡ told_of h.tellings ++ told_entry last = ap (λ (t : List Told). t ++ told_entry last) (sym h.told_are) in
        record {
          before = h.tellings;
          last = last;
          whole = told_all last f;
          explained = h.explained;
          parts_are = h.parts_are;
          text_is = text;
          counts = same ∙ h.counts ∙ sym (count_entry (told_by h.found) last) ∙ ap left_out_of told;
          keeps = subst (Keeps e.teller) told keeps;
        }

    pub untold : (last : Option EntryData) → GoingFinishIs ((going_form_of s.decoder).0) ((going_form_of s.decoder).1) p h.found (Ok last) → is_some last ≡ true → IsUntold part Keeps p form explain parts
    untold None f e = absurd (cc)
    untold (Some entry) f e = record { before = h.tellings; entry = entry; whole = told_all (Some entry) f; explained = h.explained; parts_are = h.parts_are }

  -- All is told, and a run that tells all has these parts.
  module _ (all : List Telling → List (List ℕ)) (outcome : List Told → Outcome) (form : Profile × Limits) (explain : Bool) (p : List ℕ) (parts : List (List ℕ)) where
    abbrev Whole : List ℕ → List (List ℕ) → Outcome → Type 0
    Whole = AllOf all outcome explain (form.0) (form.1)

    pub cut_on : (stop : Stop) → EndsOnBy part Keeps form explain p parts (faults.Stopped stop) → IsCutAt Whole p stop
    cut_on (stops.Refused at why) h = absurd h
    cut_on (stops.TooLong at) h = absurd h
    cut_on (stops.TooMany at) h = absurd h
    cut_on (stops.TooMuch at) h = absurd h
    cut_on (stops.Cut at) h = (h.0, λ ps o x. h.1 x.1.told.0)

    -- With these things told and an entry at last.
    whole_so : (before : List Telling) (e : Option EntryData) (ps : List (List ℕ)) → AreAllTold (form.0) (form.1) p (told_of before ++ told_entry e) → Explained (form.0) (form.1) explain p before → ps ≡ all (before ++ entry_tellings e) →
        Whole p ps (outcome (told_of before ++ told_entry e))
    whole_so before e ps w x same = (
      before ++ entry_tellings e,
      record { told = subst (AreAllTold (form.0) (form.1) p) (sym (told_last before e)) w; explained = explained_last (form.0) (form.1) explain p before e x },
      same,
      ap (λ (t : List Told). outcome t) (sym (told_last before e)),
    )

    -- The input ends within a line, or it doesn't.
    pub is_cut_on : (s : GoingOnReader T) (h : HasGoneOn part Keeps s form explain p parts) (b : Bool) →
        MatchBool b ((last : Option EntryData) × GoingFinishIs ((going_form_of s.decoder).0) ((going_form_of s.decoder).1) p h.found (Ok last)) (IsRecordEnd p → ⊥) → MatchBool (not b) (HasNoWhole Whole p) (HasWhole Whole p)
    is_cut_on s h true m =
        let last = m.0 in
        let all_told = told_all s form explain p parts h last m.1 in
        (all (h.tellings ++ entry_tellings last), outcome (told_of h.tellings ++ told_entry last), whole_so h.tellings last (all (h.tellings ++ entry_tellings last)) all_told h.explained refl)
    is_cut_on s h false m = λ ps o x. m x.1.told.0

    module _ (no_more : (ts : List Telling) → all ts ≡ flat_map (explained_part part) ts) (ends : (told : List Told) → outcome told ≡ told_outcome told) (some : (e : EntryData) → part (inl e) ≢ []) where
      whole_on : (before : List Telling) (e : Option EntryData) → AreAllTold (form.0) (form.1) p (told_of before ++ told_entry e) → Explained (form.0) (form.1) explain p before → parts ≡ flat_map (explained_part part) before →
          Whole p (parts ++ flat_map part (told_entry e)) (outcome (told_of before ++ told_entry e))
      whole_on before e w x same =
          whole_so before e (parts ++ flat_map part (told_entry e)) w x (ap (λ (ps : List (List ℕ)). ps ++ flat_map part (told_entry e)) same ∙ sym (parts_last part before e) ∙ sym (no_more (before ++ entry_tellings e)))

      pub finish_on : (e : Ended T) (old new : List ℕ) (h : HasEndedOn part Keeps e form explain p parts) → new ≡ old ++ e.text.items → EndIs Whole p parts old new (Ok e.left_out)
      finish_on e old new h text =
          let o : outcome (told_of h.before ++ told_entry h.last) ≡ gone_on e.left_out = ends (told_of h.before ++ told_entry h.last) ∙ ap gone_on (sym h.counts) in (
            flat_map part (told_entry h.last),
            subst (λ (x : Outcome). Whole p (parts ++ flat_map part (told_entry h.last)) x) o (whole_on h.before h.last h.whole h.explained h.parts_are),
            text ∙ ap (λ (t : List ℕ). old ++ t) h.text_is,
          )

      pub finish_starved : (e : Ended T) (old : List ℕ) (h : HasEndedOn part Keeps e form explain p parts) → 0 < length e.text.items → EndIs Whole p parts old old (Err faults.OutOfMemory)
      finish_starved e old h some_bytes =
          let more = flat_map part (told_entry h.last) in
          ((more, outcome (told_of h.before ++ told_entry h.last), some_text more e.text.items h.text_is some_bytes, whole_on h.before h.last h.whole h.explained h.parts_are), refl)

      pub finish_fault : (fault : StreamFault) (old : List ℕ) → EndsOnBy part Keeps form explain p parts fault → EndIs Whole p parts old old (Err fault)
      finish_fault (faults.Stopped stop) old h = (cut_on stop h, refl)
      finish_fault faults.OutOfMemory old h =
          let one = inl h.entry ∷ [] in
          ((flat_map part one, outcome (told_of h.before ++ one), some_single part (inl h.entry) (some h.entry), whole_on h.before (Some h.entry) h.whole h.explained h.parts_are), refl)

-- ---- The end of a snapshot that is checked

module _ {T : Type 0} (part : Told → List (List ℕ)) (Keeps : T → List Told → Type 0) (all : List Telling → List (List ℕ)) (outcome : List Told → Outcome) (form : Profile × Limits) (explain : Bool) (p : List ℕ) (parts : List (List ℕ))
    (lines : (ts : List Telling) → all ts ≡ flat_map (explained_part part) ts ++ finding_lines (entries_of (told_of ts))) (ends : (told : List Told) → outcome told ≡ checked_outcome told) (no_line : (e : EntryData) → part (inl e) ≡ []) where
  abbrev Checked : List ℕ → List (List ℕ) → Outcome → Type 0
  Checked = AllOf all outcome explain (form.0) (form.1)

  none_more : (e : Option EntryData) → flat_map part (told_entry e) ≡ []
  none_more None = refl
  none_more (Some e) = append-nil (part (inl e)) ∙ no_line e

  lines_on : (before : List Telling) (e : Option EntryData) (found : List (List ℕ)) → parts ≡ flat_map (explained_part part) before → found ≡ finding_lines (entries_of (told_of before ++ told_entry e)) → parts ++ found ≡ all (before ++ entry_tellings e)
  lines_on before e found same f =
      let ts = before ++ entry_tellings e in
      let given : parts ≡ flat_map (explained_part part) ts =
      same ∙ sym (parts_last part before e ∙ ap (λ (ps : List (List ℕ)). flat_map (explained_part part) before ++ ps) (none_more e) ∙ append-nil (flat_map (explained_part part) before)) in
      let found_is : found ≡ finding_lines (entries_of (told_of ts)) = f ∙ ap (λ (t : List Told). finding_lines (entries_of t)) (sym (told_last before e)) in
      ap (λ (ls : List (List ℕ)). parts ++ ls) found_is ∙ ap (λ (ps : List (List ℕ)). ps ++ finding_lines (entries_of (told_of ts))) given ∙ sym (lines ts)

  pub kept_on : (e : Ended T) (kept : Kept) (h : HasEndedOn part Keeps e form explain p parts) → kept.entries.items ≡ ruled (entries_of (told_of h.before ++ told_entry h.last)) → kept.left_out ≡ e.left_out → IsKept Checked p parts kept
  kept_on e kept h k n =
      let told = told_of h.before ++ told_entry h.last in
      let found : finding_lines kept.entries.items ≡ finding_lines (entries_of told) = ap (λ (x : List EntryData). finding_lines x) k ∙ lines_of_ruled (entries_of told) in
      let o : outcome told ≡ checked (length (finding_lines kept.entries.items)) kept.left_out =
      ends told ∙ (ap (λ (m : ℕ). checked (length (finding_lines (entries_of told))) m) (sym (n ∙ h.counts)) ∙ ap (λ (ls : List (List ℕ)). checked (length ls) kept.left_out) (sym found)) in
      subst (λ (x : Outcome). Checked p (parts ++ finding_lines kept.entries.items) x) o
      (whole_so part Keeps all outcome form explain p parts h.before h.last (parts ++ finding_lines kept.entries.items) h.whole h.explained (lines_on h.before h.last (finding_lines kept.entries.items) h.parts_are found))

  pub kept_fault : (fault : StreamFault) → EndsOnBy part Keeps form explain p parts fault → IsEndFault Checked p parts fault
  kept_fault (faults.Stopped stop) h = cut_on part Keeps all outcome form explain p parts stop h
  kept_fault faults.OutOfMemory h =
      let told = told_of h.before ++ inl h.entry ∷ [] in
      let found = finding_lines (entries_of told) in
      (found, outcome told, whole_so part Keeps all outcome form explain p parts h.before (Some h.entry) (parts ++ found) h.whole h.explained (lines_on h.before (Some h.entry) found h.parts_are refl))
