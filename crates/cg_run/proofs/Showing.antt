-- What a decoder of snapshots finds, as a reader shows it.
use Rattle.std.proofs.Common.{◌≡◌, ◌≢◌, ℕ, ◌+◌, ◌-◌, ◌<◌, ◌≤◌, List, [], ◌∷◌, ◌++◌, length, take, drop, get_or, map, refl, sym, ap, subst, ◌∙◌, append_assoc, append-nil, inl, inr, arith}
use Rattle.std.proofs.Common.{length-take}
use Rattle.std.proofs.lemmas.List.{append_cancel_left, append_cancel_right, map-append, take-append-drop, take_more}
use Rattle.cg_text.specs.Texts.{Lacks}
use Rattle.cg_text.specs.TextsLaws.{lacks_both}
use Rattle.cg_value.specs.Entry.{EntryData}
use Rattle.cg_value.specs.EntryLaws.{entry_path}
use Rattle.cg_value.specs.PathLaws.{path_lacks_newline, path_lacks_nul}
use Rattle.cg_value.specs.Print.{print_lines}
use Rattle.cg_value.specs.Records.{records}
use Rattle.cg_value.specs.declared.profile.Profile.{Profile}
use Rattle.cg_snap.specs.Closed.{Closed}
use Rattle.cg_snap.specs.Decode.{HasTaken}
use Rattle.cg_snap.specs.Laws.{print_entries}
use Rattle.cg_snap.specs.Snap.{SnapText}
use Rattle.cg_snap.specs.SnapLaws.{one_back, snap_is_print}
use Rattle.cg_snap.specs.SnapStop.{IsSnapUnstopped}
use Rattle.cg_snap.specs.Decoder.{SnapshotDecoder}
use Rattle.cg_snap.specs.declared.limits.Limits.{Limits}
use Rattle.cg_run.specs.Shown.{IsShownBehind}
use Rattle.cg_run.specs.ShownBytes.{CutsOff, IsCut, shown_bytes}
use Rattle.cg_run.specs.Stream.{PartsOf, shown_part}
use Rattle.cg_run.specs.Streaming.{WantsMemory}
use Rattle.cg_run.specs.Taken.{taken_closed, taken_unstopped}
use Rattle.cg_run.proofs.Keeping.{unstopped_front}
use Rattle.cg_run.proofs.ShowsBytes.{plain_shown, records_shown, shown-append, shown_end}
use Rattle.cg_run.proofs.SnapEnds.{IsEntryEnd, entries_push, entry_end, last_lines, lines_lack_nul}
use Rattle.cg_snap.specs.Begun.{IsRecordEnd}
use Rattle.cg_run.specs.Decoded.{AreFollowed, ArePlain, CloseMore}
use Rattle.cg_outcome.specs.Wrote.{joined}

-- ---- Entries

pub entries_append : (es fs : List EntryData) → print_entries (es ++ fs) ≡ print_entries es ++ print_entries fs
entries_append [] fs = refl
entries_append (e ∷ es) fs =
    let first = records e.path (print_lines e.value) in
    ap (λ (t : List ℕ). first ++ t) (entries_append es fs) ∙ sym (append_assoc first (print_entries es) (print_entries fs))

entries_shown : (es : List EntryData) (rest : List ℕ) → ArePlain es → shown_bytes (print_entries es ++ rest) ≡ joined (map shown_part es) ++ shown_bytes rest
entries_shown [] rest h = refl
entries_shown (e ∷ es) rest h =
    ap (λ t. shown_bytes t) (append_assoc (records e.path (print_lines e.value)) (print_entries es) rest)
    ∙ records_shown e.path (print_lines e.value) (print_entries es ++ rest) (path_lacks_nul e.path (entry_path e)) h.0
    ∙ ap (λ t. shown_part e ++ t) (entries_shown es rest h.1)
    ∙ sym (append_assoc (shown_part e) (joined (map shown_part es)) (shown_bytes rest))

both_end : (xs ys : List ℕ) → IsRecordEnd xs → IsRecordEnd ys → IsRecordEnd (xs ++ ys)
both_end xs ys h (inl e) = subst IsRecordEnd (sym (ap (λ t. xs ++ t) e ∙ append-nil xs)) h
both_end xs ys h (inr r) = inr (xs ++ r.0, ap (λ t. xs ++ t) r.1 ∙ sym (append_assoc xs (r.0) (10 ∷ [])))

entries_end : (es : List EntryData) → IsRecordEnd (joined (map shown_part es))
entries_end [] = inl refl
entries_end (e ∷ es) = both_end (shown_part e) (joined (map shown_part es)) (shown_end e.path (print_lines e.value)) (entries_end es)

-- ---- The text

module _ (was : List ℕ) (p : List ℕ) (es : List EntryData) (b : IsShownBehind was p es) (q : List ℕ) where
  text_more : was ++ shown_bytes q ≡ shown_bytes (b.present ++ q)
  text_more = ap (λ t. t ++ shown_bytes q) b.shows ∙ sym (shown-append b.present q)

  -- More bytes of the entry.
  pub behind_more : (now : List ℕ) → now ≡ was ++ shown_bytes q → IsShownBehind now (p ++ q) es
  behind_more now s = record {
    present = b.present ++ q;
    split = ap (λ t. t ++ q) b.split ∙ append_assoc (print_entries es) b.present q;
    shows = s ∙ text_more;
  }

  module _ (now : List ℕ) (more : List EntryData) (end : AreFollowed (p ++ q) es more) (lines : List ℕ)
      (cut : IsCut (was ++ shown_bytes q) lines now) where
    abbrev next : List ℕ
    next = end.next ++ 0 ∷ []

    abbrev mark : List ℕ
    mark = end.next ++ 58 ∷ 32 ∷ []

    abbrev shown_more : List ℕ
    shown_more = joined (map shown_part more)

    next_plain : Lacks 0 end.next
    next_plain = path_lacks_nul end.next end.good

    present_is : b.present ++ q ≡ print_entries more ++ next
    present_is =
        append_cancel_left (print_entries es) (b.present ++ q) (print_entries more ++ next)
        (sym (append_assoc (print_entries es) b.present q) ∙ ap (λ t. t ++ q) (sym b.split) ∙ end.split)

    whole : lines ++ now ≡ shown_more ++ mark
    whole =
        sym cut.whole ∙ text_more ∙ ap (λ t. shown_bytes t) present_is
        ∙ entries_shown more next end.plain
        ∙ ap (λ t. shown_more ++ t) (plain_shown end.next (0 ∷ []) next_plain)

    mark_plain : Lacks 10 mark
    mark_plain = lacks_both 10 end.next (58 ∷ 32 ∷ []) (path_lacks_newline end.next end.good) ((λ z. absurd (cc)), ((λ z. absurd (cc)), tt))

    rest_is : now ≡ mark
    rest_is = one_back 10 lines shown_more now mark cut.ended (entries_end more) cut.plain mark_plain whole

    -- The lines are those of the entries.
    pub lines_are : lines ≡ shown_more
    lines_are = append_cancel_right lines shown_more now (whole ∙ ap (λ t. shown_more ++ t) (sym rest_is))

    -- What is left is of the next record.
    pub behind_entries : IsShownBehind now (p ++ q) (es ++ more)
    behind_entries = record {
      present = next;
      split = end.split ∙ sym (append_assoc (print_entries es) (print_entries more) next) ∙ ap (λ t. t ++ next) (sym (entries_append es more));
      shows = rest_is ∙ sym (plain_shown end.next (0 ∷ []) next_plain);
    }

-- At the end of a snapshot the text is that of the last entry.
pub last_shown : (profile : Profile) (s : List ℕ) (p : List ℕ) (es : List EntryData) (e : EntryData) → IsShownBehind s p es → SnapText profile (es ++ e ∷ []) p → s ≡ shown_part e
last_shown profile s p es e b whole =
    let entry = records e.path (print_lines e.value) in
    let printed : p ≡ print_entries es ++ entry = snap_is_print profile (es ++ e ∷ []) p whole ∙ entries_push es e in
    let present : b.present ≡ entry ++ [] = append_cancel_left (print_entries es) b.present entry (sym b.split ∙ printed) ∙ sym (append-nil entry) in
    let plain = lines_lack_nul profile e (print_lines e.value) (last_lines profile es e p whole) in
    b.shows ∙ ap (λ t. shown_bytes t) present ∙ records_shown e.path (print_lines e.value) [] (path_lacks_nul e.path (entry_path e)) plain ∙ append-nil (shown_part e)

-- ---- A piece

module _ (was now : List ℕ) (profile : Profile) (limits : Limits) (p piece : List ℕ) (es more : List EntryData) (closed : ℕ) (b : IsShownBehind was p es) where
  cut_shown : (q lines : List ℕ) → q ≡ take closed piece → CutsOff was now q lines → CloseMore profile limits p es piece closed more → closed ≤ length piece →
      (lines ≡ joined (map shown_part more)) × IsShownBehind now (p ++ q) (es ++ more)
  cut_shown [] lines e cut (inl none) within =
      let list : es ≡ es ++ more = sym (ap (λ fs. es ++ fs) none.1 ∙ append-nil es) in (
        cut.0 ∙ ap (λ fs. joined (map shown_part fs)) (sym none.1),
        subst (λ (fs : List EntryData). IsShownBehind now (p ++ []) fs) list (behind_more was p es b [] now (cut.1 ∙ sym (append-nil was))),
      )
  cut_shown (byte ∷ q) lines e cut (inl none) within =
      let z : length (byte ∷ q) ≡ 0 = ap length (e ∙ ap (λ (n : ℕ). take n piece) none.0) in
      absurd (omega (arith, z))
  cut_shown [] lines e cut (inr some) within =
      absurd (omega (arith, some.0, within, ap length e, length-take closed piece))
  cut_shown (byte ∷ q) lines e cut (inr some) within =
      let end = subst (λ (t : List ℕ). AreFollowed (p ++ t) es more) (sym e) some.1.followed in (
        lines_are was p es b (byte ∷ q) now more end lines cut,
        behind_entries was p es b (byte ∷ q) now more end lines cut,
      )

  -- The text of the entries that the piece closes.
  pub closed_shown : (front lines : List ℕ) → front ≡ take closed piece → CutsOff was now front lines → CloseMore profile limits p es piece closed more → closed ≤ length piece →
      (lines ≡ joined (map shown_part more)) × IsShownBehind now (p ++ front) (es ++ more)
  closed_shown front lines e cut close within = cut_shown front lines e cut close within

-- ---- What is found

-- The byte that closes an entry ends it.
pub closed_end : (d : SnapshotDecoder) (profile : Profile) (limits : Limits) (p piece : List ℕ) (used : ℕ) (es : List EntryData) (e : EntryData) → 0 < used → used ≤ length piece →
    Closed profile (p ++ take (used - 1) piece) es → HasTaken d profile limits (p ++ take used piece) (es ++ e ∷ []) → IsEntryEnd (p ++ take used piece) es e
closed_end d profile limits p piece used es e some within c t =
    let back : (used - 1) + 1 ≡ used = omega (arith, some) in
    let below : used - 1 < length piece = omega (arith, some, within) in
    let front = take (used - 1) piece in
    let last = get_or piece (used - 1) 0 in
    let whole : p ++ take used piece ≡ (p ++ front) ++ last ∷ [] =
    ap (λ (n : ℕ). p ++ take n piece) (sym back) ∙ ap (λ t. p ++ t) (take_more piece (used - 1) 0 below) ∙ sym (append_assoc p front (last ∷ [])) in
    let closed = taken_closed d profile limits (p ++ take used piece) (es ++ e ∷ []) t in
    subst (λ (bytes : List ℕ). IsEntryEnd bytes es e) (sym whole)
    (entry_end profile (p ++ front) last es e c (subst (λ (bytes : List ℕ). Closed profile bytes (es ++ e ∷ [])) whole closed))

pub some_shown : (es : List EntryData) → es ≢ [] → map shown_part es ≢ []
some_shown [] some = λ z. some refl
some_shown (e ∷ es) some = λ z. cc

module _ (profile : Profile) (limits : Limits) (p piece : List ℕ) (es more : List EntryData) (parts : List (List ℕ)) (closed : ℕ) (parts_are : parts ≡ map shown_part es) where
  abbrev Wants : List (List ℕ) → Type 0
  Wants all = WantsMemory (PartsOf shown_part (λ bytes fs. Closed profile bytes fs)) (IsSnapUnstopped profile limits) p all piece closed

  pub all_are : parts ++ map shown_part more ≡ map shown_part (es ++ more)
  all_are = ap (λ ts. ts ++ map shown_part more) parts_are ∙ sym (map-append shown_part es more)

  -- The first bytes of what nothing stops.
  first : (n : ℕ) → IsSnapUnstopped profile limits (p ++ piece) → IsSnapUnstopped profile limits (p ++ take n piece)
  first n h =
      let split : p ++ piece ≡ (p ++ take n piece) ++ drop n piece = ap (λ t. p ++ t) (sym (take-append-drop n piece)) ∙ sym (append_assoc p (take n piece) (drop n piece)) in
      unstopped_front _ _ _ _ _ (p ++ take n piece) (drop n piece) (subst (IsSnapUnstopped profile limits) split h)

  closes : (was : SnapshotDecoder) → HasTaken was profile limits p es → CloseMore profile limits p es piece closed more → Closed profile (p ++ take closed piece) (es ++ more)
  closes was t (inl none) =
      subst (λ (q : List ℕ). Closed profile q (es ++ more)) (sym (ap (λ (n : ℕ). p ++ take n piece) none.0 ∙ append-nil p))
      (subst (λ (fs : List EntryData). Closed profile p fs) (sym (ap (λ fs. es ++ fs) none.1 ∙ append-nil es)) (taken_closed was profile limits p es t))
  closes was t (inr h) = h.1.closed

  -- No memory was left for the text of the entries.
  pub text_starved : 0 < length (take closed piece) → CloseMore profile limits p es piece closed more → Wants parts
  text_starved some (inl none) = absurd (omega (arith, some, ap (λ (n : ℕ). length (take n piece)) none.0))
  text_starved some (inr h) = inr (map shown_part more, some_shown more h.1.some, h.1.unstopped, (es ++ more, h.1.closed, all_are))

  -- No memory was left for what comes behind the entries: the first byte of that wanted it.
  pub rest_starved : (was now : SnapshotDecoder) → closed < length piece → HasTaken was profile limits p es → HasTaken now profile limits (p ++ piece) (es ++ more) →
      CloseMore profile limits p es piece closed more → Wants (parts ++ map shown_part more)
  rest_starved was now less t u close =
      let whole = taken_unstopped now profile limits (p ++ piece) (es ++ more) u in
      inl (less, first closed whole, first (closed + 1) whole, (es ++ more, closes was t close, all_are))
