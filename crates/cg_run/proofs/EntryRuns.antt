-- Entries that lie one behind another in a piece of a snapshot that is gone on with.
use Rattle.std.proofs.Common.{◌≡◌, ◌≢◌, ℕ, zero, suc, ◌+◌, ◌<◌, ◌≤◌, Bool, true, false, List, [], ◌∷◌, ◌++◌, length, take, drop, map, Option, Some, is_some, refl, sym, ap, subst, ◌∙◌, append_assoc, append-nil, inl, inr, arith}
use Rattle.std.proofs.lemmas.Grind.{flat_map-append}
use Rattle.std.proofs.lemmas.List.{length-take-le, map-append, take-append-drop}
use Rattle.std.specs.List.{AllByRecursion, flat_map}
use Rattle.cg_text.specs.TextsLaws.{lacks_both}
use Rattle.cg_text.specs.Token.{saturated}
use Rattle.cg_value.specs.Entry.{EntryData, IsPath}
use Rattle.cg_value.specs.PathLaws.{path_lacks_newline}
use Rattle.cg_value.specs.Print.{print_lines}
use Rattle.cg_value.specs.Records.{records}
use Rattle.cg_value.specs.declared.profile.Profile.{Profile}
use Rattle.cg_snap.specs.Begun.{IsRecordEnd}
use Rattle.cg_snap.specs.Course.{HasProgressed}
use Rattle.cg_snap.specs.GoingOn.{AreToldBy, Told, stream_limits, told_by}
use Rattle.cg_snap.specs.GoingOnDecoder.{GoingOnDecoder, StandsOn, going_form_of}
use Rattle.cg_snap.specs.GoingOnEntry.{BeginsBlock, EndsBlock, EntryDid, found_entry}
use Rattle.cg_snap.specs.GoingOnState.{going_stream}
use Rattle.cg_snap.specs.Laws.{print_entries}
use Rattle.cg_snap.specs.SnapLaws.{one_back, snap_is_print}
use Rattle.cg_snap.specs.declared.event.Event.{Event}
use Rattle.cg_snap.specs.declared.event.Event.TheVariants as events
use Rattle.cg_snap.specs.declared.going_on.Found.{Found}
use Rattle.cg_snap.specs.declared.going_on_records.GoingOnRecords.{GoingOnRecords}
use Rattle.cg_snap.specs.declared.limits.Limits.{Limits}
use Rattle.cg_snap.specs.declared.meter.Meter.{Meter}
use Rattle.cg_run.specs.EntryRun.{AreRun, HavePassed}
use Rattle.cg_run.specs.GoneOn.{ExplainsTold, GoingStopOf, IsGoingUnstopped, ShowsEntries, Telling, TellsParts, explained_part, how_many, left_out_of, told_found, told_of}
use Rattle.cg_run.specs.GoneOnReader.{FoundOn, GoesOn, HasGoneOn, HasTakenOn}
use Rattle.cg_outcome.specs.Lines.{AreBehind}
use Rattle.cg_outcome.specs.Wrote.{joined}
use Rattle.cg_run.specs.ShownBytes.{CutsOff, IsCut}
use Rattle.cg_run.specs.Stream.{shown_part}
use Rattle.cg_run.specs.Streaming.{IsFoundBy, LeadsTo, StandsBehind, WantsMemory}
use Rattle.cg_run.specs.Taken.{taken_closed, taken_unstopped}
use Rattle.cg_run.specs.declared.going_on.GoingOnReader.{GoingOnReader}
use Rattle.cg_outcome.specs.declared.lines.Lines.{Lines}
use Rattle.cg_run.proofs.Decoding.{plain_push, some_push}
use Rattle.cg_run.proofs.GoingOn.{all_both, count_entry, explained_more, found_none, given_found, how_many_both, text_push, told_both}
use Rattle.cg_run.proofs.Showing.{lines_are, some_shown}
use Rattle.cg_run.proofs.ShowsBytes.{moved_text}
use Rattle.cg_run.proofs.SnapEnds.{entries_push, last_lines, lines_lack_nul}

-- ---- What a decoder takes

module _ (was now : GoingOnDecoder) (form : Profile × Limits) (p q : List ℕ) (found more : List Found) (h : HasTakenOn was form p found) (same_form : going_form_of now ≡ going_form_of was) (same_limits : now.meter.limits ≡ was.meter.limits) (same_stop : now.stop ≡ was.stop) where
  pub takes_on : StandsOn now q more → HasTakenOn now form q more
  takes_on stands = record { stands = stands; stop = same_stop ∙ h.stop; form_is = same_form ∙ h.form_is; limits_is = same_limits ∙ h.limits_is }

module _ (form : Profile × Limits) (s : GoingOnRecords) (m : Meter) (p : List ℕ) (found : List Found) (piece : List ℕ) where
  -- Nothing was taken, and so nothing given.
  pub none_taken : (used : ℕ) → used ≡ 0 → (what : Event EntryData) → EntryDid form s m p found piece used what → HasProgressed (going_stream form) s m (p ++ take used piece) found
  none_taken used z events.NeedMore h = h
  none_taken used z (events.Given e) h = absurd (omega (arith, h.0, z))
  none_taken used z (events.Stopped stop) h = h
  none_taken used z events.OutOfMemory h = h

-- The reader stands where it goes on.
pub goes_stood : (Stood : List ℕ → Type 0) (p piece : List ℕ) (used : ℕ) (what : Event (Unit {0})) → GoesOn used what → StandsBehind Stood p piece used what
goes_stood Stood p piece used events.NeedMore h = tt
goes_stood Stood p piece used (events.Given u) h = tt
goes_stood Stood p piece used (events.Stopped stop) h = absurd h
goes_stood Stood p piece used events.OutOfMemory h = tt

pub goes_found : (whole used : ℕ) (what : Event (Unit {0})) → GoesOn used what → IsFoundBy whole used what
goes_found whole used events.NeedMore h = λ lt. h
goes_found whole used (events.Given u) h = λ lt. h
goes_found whole used (events.Stopped stop) h = absurd h
goes_found whole used events.OutOfMemory h = tt

-- ---- A piece

abbrev pub passed_none : (d : GoingOnDecoder) (form : Profile × Limits) (p : List ℕ) (found : List Found) (next piece : List ℕ) → IsPath next → HasTakenOn d form p found → HavePassed d form p found next piece 0 0
passed_none d form p found next piece good h = record {
  entries = [];
  taken = subst (λ (q : List ℕ). HasTakenOn d form q (found ++ [])) (sym (append-nil p)) (subst (λ (fs : List Found). HasTakenOn d form p fs) (sym (append-nil found)) h);
  some = λ lt. absurd (omega (arith, lt));
  none = λ e. refl;
  followed = record { plain = tt; next = next; good = good; split = append-nil (next ++ 0 ∷ []) };
}

module _ (was now : GoingOnDecoder) (form : Profile × Limits) (p : List ℕ) (found : List Found) (next piece : List ℕ) (at n : ℕ) (b : HavePassed was form p found next piece at at) (e : EntryData)
    (taken : HasTakenOn now form (p ++ take (at + n) piece) ((found ++ map found_entry b.entries) ++ found_entry e ∷ [])) (rest : List ℕ) (on : (q : List ℕ) → (q ++ take at piece) ++ take n rest ≡ q ++ take (at + n) piece) (some : 0 < n)
    (ends : EndsBlock (form.0) now.records ((b.followed.next ++ 0 ∷ []) ++ take n rest) e) where
  abbrev entry : List ℕ
  entry = records e.path (print_lines e.value)

  abbrev behind : List ℕ
  behind = ends.0.next ++ 0 ∷ []

  front_is : ends.0.front ≡ entry
  front_is = snap_is_print (form.0) (e ∷ []) ends.0.front ends.1 ∙ append-nil entry

  pub passed_text : (next ++ 0 ∷ []) ++ take (at + n) piece ≡ print_entries (b.entries ++ e ∷ []) ++ behind
  passed_text =
      sym (on (next ++ 0 ∷ [])) ∙ ap (λ (t : List ℕ). t ++ take n rest) b.followed.split ∙ append_assoc (print_entries b.entries) (b.followed.next ++ 0 ∷ []) (take n rest)
      ∙ ap (λ (t : List ℕ). print_entries b.entries ++ t) (ends.0.split ∙ ap (λ (t : List ℕ). t ++ behind) front_is) ∙ sym (append_assoc (print_entries b.entries) entry behind)
      ∙ ap (λ (t : List ℕ). t ++ behind) (sym (entries_push b.entries e))

  -- One entry more is closed.
  abbrev pub passed_entry : HavePassed now form p found next piece (at + n) (at + n)
  passed_entry = record {
    entries = b.entries ++ e ∷ [];
    taken = subst (λ (fs : List Found). HasTakenOn now form (p ++ take (at + n) piece) fs) (append_assoc found (map found_entry b.entries) (found_entry e ∷ []) ∙ ap (λ (fs : List Found). found ++ fs) (sym (map-append found_entry b.entries (e ∷ [])))) taken;
    some = λ lt. some_push b.entries e;
    none = λ z. absurd (omega (arith, z, some));
    followed = record {
      plain = plain_push b.entries e b.followed.plain (lines_lack_nul (form.0) e (print_lines e.value) (last_lines (form.0) [] e ends.0.front ends.1));
      next = ends.0.next;
      good = ends.0.good;
      split = passed_text;
    };
  }

-- What is behind the last newline of a piece, behind which a block began with a path and its NUL.
module _ (profile : Profile) (s : GoingOnRecords) (p text : List ℕ) (begin : ℕ) (w : BeginsBlock profile s (p ++ text)) (cut : IsCut text (take begin text) (drop begin text)) (some : 0 < begin) (within : begin ≤ length text) where
  abbrev lines : List ℕ
  lines = take begin text

  abbrev last : List ℕ
  last = drop begin text

  lines_length : length lines ≡ begin
  lines_length = length-take-le begin text within

  ended : IsRecordEnd lines → IsRecordEnd (p ++ lines)
  ended (inl e) = absurd (omega (arith, some, lines_length, ap length e))
  ended (inr r) = inr (p ++ r.0, ap (λ (t : List ℕ). p ++ t) r.1 ∙ sym (append_assoc p (r.0) (10 ∷ [])))

  whole : (p ++ lines) ++ last ≡ w.front ++ (w.next ++ 0 ∷ [])
  whole = append_assoc p lines last ∙ ap (λ (t : List ℕ). p ++ t) (take-append-drop begin text) ∙ w.split

  pub behind_line : last ≡ w.next ++ 0 ∷ []
  behind_line = one_back 10 (p ++ lines) w.front last (w.next ++ 0 ∷ []) (ended cut.ended) w.ended cut.plain (lacks_both 10 w.next (0 ∷ []) (path_lacks_newline w.next w.good) ((λ z. absurd (cc)), tt)) whole

  -- It goes on with what comes behind the piece.
  pub run_bytes : (all more : List ℕ) → all ≡ text ++ more → drop begin all ≡ (w.next ++ 0 ∷ []) ++ more
  run_bytes all more e =
      ap (λ (n : ℕ). drop n all) (sym lines_length) ∙ moved_text lines last more all (e ∙ ap (λ (t : List ℕ). t ++ more) (sym (take-append-drop begin text))) ∙ ap (λ (t : List ℕ). t ++ more) behind_line

-- There is no entry.
pub no_run : (begin : ℕ) (piece : List ℕ) → AreRun (drop begin (take begin piece)) []
no_run begin piece = inl (none begin piece, refl)
  where
    none : (n : ℕ) (xs : List ℕ) → drop n (take n xs) ≡ []
    none zero xs = refl
    none (suc n) [] = refl
    none (suc n) (x ∷ xs) = none n xs

-- ---- The text of the entries

some_bytes : (xs ys : List ℕ) → 0 < length (xs ++ (ys ++ 0 ∷ []))
some_bytes [] [] = omega arith
some_bytes [] (y ∷ ys) = omega arith
some_bytes (x ∷ xs) ys = omega arith

pub run_shown : (bytes now lines : List ℕ) (es : List EntryData) → AreRun bytes es → CutsOff [] now bytes lines → lines ≡ joined (map shown_part es)
run_shown [] now lines es (inl none) cut = cut.0 ∙ ap (λ (fs : List EntryData). joined (map shown_part fs)) (sym none.1)
run_shown (b ∷ bytes) now lines es (inl none) cut = let z = none.0 in absurd (cc)
run_shown [] now lines es (inr run) cut = absurd (omega (arith, ap length run.1.split, some_bytes (print_entries es) run.1.next))
run_shown (b ∷ bytes) now lines es (inr run) cut = lines_are [] [] [] (record { present = []; split = refl; shows = refl }) (b ∷ bytes) now es run.1 lines cut

-- Memory is wanted only where there are entries.
pub run_some : (bytes : List ℕ) (es : List EntryData) → AreRun bytes es → 0 < length bytes → es ≢ []
run_some bytes es (inl none) lt = absurd (omega (arith, lt, ap length none.0))
run_some bytes es (inr run) lt = run.0

-- ---- What is told of them

abbrev entries_told : List EntryData → List Told
entries_told es = map (λ e. inl e) es

abbrev entry_telling : EntryData → Telling
entry_telling e = record { told = inl e; lines = [] }

told_entries : (found : List Found) (es : List EntryData) → told_by (found ++ map found_entry es) ≡ told_by found ++ entries_told es
told_entries [] [] = refl
told_entries [] (e ∷ es) = ap (λ (ts : List Told). inl e ∷ ts) (told_entries [] es)
told_entries (f ∷ found) es = ap (λ (t : List Told). told_found f ++ t) (told_entries found es) ∙ sym (append_assoc (told_found f) (told_by found) (entries_told es))

tellings_told : (es : List EntryData) → told_of (map entry_telling es) ≡ entries_told es
tellings_told [] = refl
tellings_told (e ∷ es) = ap (λ (ts : List Told). inl e ∷ ts) (tellings_told es)

none_left_out : (es : List EntryData) → how_many (entries_told es) ≡ 0
none_left_out [] = refl
none_left_out (e ∷ es) = none_left_out es

count_entries : (told : List Told) (es : List EntryData) → left_out_of (told ++ entries_told es) ≡ left_out_of told
count_entries told es =
    let both = how_many_both told (entries_told es) in
    let none = none_left_out es in
    let same : how_many (told ++ entries_told es) ≡ how_many told = omega (arith, both, none) in
    ap saturated same

entries_explained : (profile : Profile) (limits : Limits) (explain : Bool) (bytes : List ℕ) (es : List EntryData) → AllByRecursion (λ t. ExplainsTold profile limits explain bytes t.told t.lines) (map entry_telling es)
entries_explained profile limits explain bytes [] = tt
entries_explained profile limits true bytes (e ∷ es) = (refl, entries_explained profile limits true bytes es)
entries_explained profile limits false bytes (e ∷ es) = (refl, entries_explained profile limits false bytes es)

module _ {T : Type 0} (part : Told → List (List ℕ)) (Keeps : T → List Told → Type 0) (t : T) (shows : ShowsEntries part Keeps t) where
  entries_parts : (es : List EntryData) → flat_map (explained_part part) (map entry_telling es) ≡ map shown_part es
  entries_parts [] = refl
  entries_parts (e ∷ es) = ap (λ (ps : List (List ℕ)). (ps ++ []) ++ flat_map (explained_part part) (map entry_telling es)) ((shows [] e).0) ∙ ap (λ (ps : List (List ℕ)). shown_part e ∷ ps) (entries_parts es)

  entries_kept : (told : List Told) (es : List EntryData) → Keeps t told → Keeps t (told ++ entries_told es)
  entries_kept told [] h = subst (Keeps t) (sym (append-nil told)) h
  entries_kept told (e ∷ es) h = subst (Keeps t) (append_assoc told (inl e ∷ []) (entries_told es)) (entries_kept (told ++ inl e ∷ []) es ((shows told e).1 h))

module _ {T : Type 0} (part : Told → List (List ℕ)) (Keeps : T → List Told → Type 0) (form : Profile × Limits) (explain : Bool) (p piece : List ℕ) (parts : List (List ℕ)) where
  -- What comes behind what was told before in the same call.
  pub found_behind : (s : GoingOnReader T) (used : ℕ) (what : Event (Unit {0})) (old mid new : List ℕ) (more : List (List ℕ)) → mid ≡ old ++ joined more → FoundOn part Keeps s form explain p (parts ++ more) piece used mid new what →
      FoundOn part Keeps s form explain p parts piece used old new what
  found_behind s used what old mid new more e h = record {
    more = more ++ h.more;
    out_is = text_push old mid new more h.more e h.out_is;
    leads = subst (λ (ps : List (List ℕ)). LeadsTo (TellsParts part explain (form.0) (form.1)) (IsGoingUnstopped (form.1)) (HasGoneOn part Keeps s form explain) (GoingStopOf (form.1)) p ps piece used what) (append_assoc parts more h.more) h.leads;
  }

  -- Nothing was taken.
  pub still_taken : (used : ℕ) (was now : GoingOnReader T) (what : Event EntryData) (h : HasGoneOn part Keeps was form explain p parts) (same_form : going_form_of now.decoder ≡ going_form_of was.decoder) (same_limits : now.decoder.meter.limits ≡ was.decoder.meter.limits) (same_stop : now.decoder.stop ≡ was.decoder.stop) → used ≡ 0 →
      EntryDid (going_form_of now.decoder) now.decoder.records now.decoder.meter p h.found piece used what → now.left_out ≡ was.left_out → now.teller ≡ was.teller → now.lines ≡ was.lines → HasGoneOn part Keeps now form explain p parts
  still_taken used was now what h same_form same_limits same_stop unused did left_out teller lines =
      let none : p ++ take used piece ≡ p = ap (λ (n : ℕ). p ++ take n piece) unused ∙ append-nil p in
      let stands = none_taken (going_form_of now.decoder) now.decoder.records now.decoder.meter p h.found piece used unused what did in
      let taken = takes_on was.decoder now.decoder form p (p ++ take used piece) h.found h.found h.taken same_form same_limits same_stop stands in
      subst (λ (q : List ℕ). HasGoneOn part Keeps now form explain q parts) none
      (found_none part Keeps form explain p piece used parts was now h taken left_out teller (subst (λ (l : Option Lines). AreBehind l (p ++ take used piece)) (sym lines) (subst (AreBehind was.lines) (sym none) h.lines)) (ap (λ (l : Option Lines). is_some l) lines))

  -- An entry alone was given, and told.
  pub entry_given : (used : ℕ) (was mid : GoingOnReader T) (d : GoingOnDecoder) (old new : List ℕ) (e : EntryData) (h : HasGoneOn part Keeps was form explain p parts) → HasTakenOn d form (p ++ take used piece) (h.found ++ found_entry e ∷ []) →
      mid.decoder ≡ d → mid.left_out ≡ was.left_out → (new ≡ old ++ joined (part (inl e))) × Keeps mid.teller (told_by h.found ++ inl e ∷ []) → AreBehind mid.lines (p ++ take used piece) → is_some mid.lines ≡ explain →
      FoundOn part Keeps mid form explain p parts piece used old new (events.Given tt)
  entry_given used was mid d old new e h taken same left_out told lines counted =
      given_found part Keeps form explain p piece used parts was mid old new (found_entry e) [] h (subst (λ (x : GoingOnDecoder). HasTakenOn x form (p ++ take used piece) (h.found ++ found_entry e ∷ [])) (sym same) taken)
      (told.0 ∙ ap (λ (ps : List (List ℕ)). old ++ joined ps) (sym (append-nil (part (inl e) ++ []) ∙ append-nil (part (inl e))))) refl told.1 (left_out ∙ h.counts ∙ sym (count_entry (told_by h.found) (Some e))) lines counted

  module _ (was now : GoingOnReader T) (at used : ℕ) (shows : ShowsEntries part Keeps was.teller) (h : HasGoneOn part Keeps was form explain (p ++ take at piece) parts) (es : List EntryData) (rest : List ℕ) (on : p ++ take used piece ≡ (p ++ take at piece) ++ rest)
      (taken : HasTakenOn now.decoder form (p ++ take used piece) (h.found ++ map found_entry es)) where
    abbrev bytes : List ℕ
    bytes = p ++ take used piece

    abbrev tellings : List Telling
    tellings = h.tellings ++ map entry_telling es

    told_are : told_of tellings ≡ told_by (h.found ++ map found_entry es)
    told_are =
        told_both h.tellings (map entry_telling es) ∙ ap (λ (ts : List Told). told_of h.tellings ++ ts) (tellings_told es) ∙ ap (λ (ts : List Told). ts ++ entries_told es) h.told_are
        ∙ sym (told_entries h.found es)

    explained : AllByRecursion (λ t. ExplainsTold (form.0) (form.1) explain bytes t.told t.lines) tellings
    explained =
        all_both (λ (t : Telling). ExplainsTold (form.0) (form.1) explain bytes t.told t.lines) h.tellings (map entry_telling es)
        (subst (λ (b : List ℕ). AllByRecursion (λ t. ExplainsTold (form.0) (form.1) explain b t.told t.lines) h.tellings) (sym on) (explained_more (form.0) (form.1) explain (p ++ take at piece) rest h.tellings h.explained))
        (entries_explained (form.0) (form.1) explain bytes es)

    parts_are : parts ++ map shown_part es ≡ flat_map (explained_part part) tellings
    parts_are =
        ap (λ (ps : List (List ℕ)). ps ++ map shown_part es) h.parts_are ∙ ap (λ (ps : List (List ℕ)). flat_map (explained_part part) h.tellings ++ ps) (sym (entries_parts part Keeps was.teller shows es))
        ∙ sym (flat_map-append (explained_part part) h.tellings (map entry_telling es))

    -- They are told.
    pub run_given : now.left_out ≡ was.left_out → now.teller ≡ was.teller → AreBehind now.lines bytes → is_some now.lines ≡ is_some was.lines → HasGoneOn part Keeps now form explain bytes (parts ++ map shown_part es)
    run_given same teller lines counted = record {
      found = h.found ++ map found_entry es;
      taken = taken;
      tellings = tellings;
      told_are = told_are;
      explained = explained;
      parts_are = parts_are;
      counts = same ∙ h.counts ∙ sym (count_entries (told_by h.found) es) ∙ ap left_out_of (sym (told_entries h.found es));
      keeps = subst (λ (t : T). Keeps t (told_by (h.found ++ map found_entry es))) (sym teller) (subst (Keeps was.teller) (sym (told_entries h.found es)) (entries_kept part Keeps was.teller shows (told_by h.found) es h.keeps));
      lines = lines;
      explain_is = counted ∙ h.explain_is;
    }

    -- No memory was left for their text.
    pub run_starved : es ≢ [] → WantsMemory (TellsParts part explain (form.0) (form.1)) (IsGoingUnstopped (form.1)) p parts piece used
    run_starved some = inr (
      map shown_part es,
      some_shown es some,
      taken_unstopped now.decoder form (stream_limits (form.1)) bytes (h.found ++ map found_entry es) taken,
      (
        tellings,
        record { told = subst (AreToldBy (form.0) (form.1) bytes) (sym told_are) (taken_closed now.decoder form (stream_limits (form.1)) bytes (h.found ++ map found_entry es) taken); explained = explained },
        parts_are,
      ),
    )
