-- A block that is closed by the NUL of another path, which begins a block of its own.
use Rattle.std.proofs.Common.{◌≡◌, ◌≢◌, ℕ, ◌+◌, ◌-◌, ◌<◌, ◌≤◌, List, [], ◌∷◌, ◌++◌, length, take, get_or, refl, sym, ap, subst, ◌∙◌, append_assoc, arith, Bool, true, false, Option, Some, None, inl, inr}
use Rattle.std.specs.List.{AllByRecursion}
use Rattle.std.specs.Bool.{MatchBool}
use Rattle.std.proofs.lemmas.Bool.{MatchBool-at_false, MatchBool-at_true, cases_lt}
use Rattle.std.proofs.lemmas.List.{append-nil, length-append, length_push}
use Rattle.cg_text.specs.ListFacts.{push_one}
use Rattle.cg_text.specs.Texts.{Lacks}
use Rattle.cg_value.specs.Entry.{EntryData, IsPath}
use Rattle.cg_value.specs.PathLaws.{path_lacks_newline, path_lacks_nul}
use Rattle.cg_value.specs.Records.{records}
use Rattle.cg_value.specs.declared.profile.Profile.{Profile}
use Rattle.cg_snap.specs.Begun.{IsBegun, IsRecordEnd}
use Rattle.cg_snap.specs.Closed.{Closed, EndsOther}
use Rattle.cg_snap.specs.ClosedLaws.{begun_once, closed_once}
use Rattle.cg_snap.specs.Course.{HasProgressed}
use Rattle.cg_snap.specs.DecoderState.{HasConsumed, HasConsumedInLine, HasConsumedInPath}
use Rattle.cg_snap.specs.GoingOnEntry.{BeginsBlock, EndsBlock}
use Rattle.cg_snap.specs.Meter.{IsCounted}
use Rattle.cg_snap.specs.PathBytes.{ArePathBytes}
use Rattle.cg_snap.specs.Snap.{Snap, SnapText}
use Rattle.cg_snap.specs.SnapStop.{IsManyRecords, IsRecordWhy, IsSnapUnstopped}
use Rattle.cg_snap.specs.Streams.{snap_stream}
use Rattle.cg_snap.specs.declared.going_on_records.GoingOnRecords.{GoingOnRecords}
use Rattle.cg_snap.specs.declared.limits.Limits.{Limits}
use Rattle.cg_snap.specs.declared.meter.Meter.{Meter}
use Rattle.cg_snap.specs.declared.present.CurrentEntry.{CurrentEntry}
use Rattle.cg_snap.specs.declared.snapshot_records.SnapshotRecords.{SnapshotRecords}
use Rattle.cg_snap.proofs.Begins.{not_long}
use Rattle.cg_snap.proofs.Closes.{begun_after, nul_plain, records_end}
use Rattle.cg_snap.proofs.Courses.{taken_more}
use Rattle.cg_snap.proofs.GoingOnFaults.{snoc, start_unstopped}
use Rattle.cg_snap.proofs.GoingOnLines.{lacks_left}
use Rattle.cg_snap.proofs.GoingOnMoves.{record_end_both}
use Rattle.cg_snap.proofs.Heads.{path_bytes}
use Rattle.cg_snap.proofs.Joins.{records-append}
use Rattle.cg_snap.proofs.Places.{HasBefore, few_many, is_many}
use Rattle.cg_snap.proofs.Refusals.{line_start, records_start}
use Rattle.cg_snap.proofs.States.{at_closed, at_true, at_viable}
use Rattle.cg_snap.proofs.Steps.{bytes_no_newline, bytes_no_nul}
use Rattle.cg_snap.proofs.Stops.{all_of, room_before, unstopped_front, unstopped_push}
use Rattle.cg_snap.proofs.Taken.{taken_records}

lines_snoc : (ls : List (List ℕ)) → ls ≢ [] → (front : List (List ℕ)) × (last : List ℕ) × (ls ≡ front ++ last ∷ [])
lines_snoc [] n = absurd (n refl)
lines_snoc (l ∷ []) n = ([], l, refl)
lines_snoc (l ∷ m ∷ ls) n = let s = lines_snoc (m ∷ ls) (λ e. absurd (cc)) in (l ∷ s.0, s.1, ap (λ (t : List (List ℕ)). l ∷ t) s.2)

all_front : (P : List ℕ → Type 0) (xs ys : List (List ℕ)) → AllByRecursion P (xs ++ ys) → AllByRecursion P xs
all_front P [] ys h = tt
all_front P (x ∷ xs) ys h = (h.0, all_front P xs ys h.1)

all_last : (P : List ℕ → Type 0) (xs : List (List ℕ)) (x : List ℕ) → AllByRecursion P (xs ++ x ∷ []) → P x
all_last P [] x h = h.0
all_last P (y ∷ xs) x h = all_last P xs x h.1

module _ (profile : Profile) where
  -- What an entry that is given leaves: its records, and the path and the NUL of another line, with which the byte came.
  pub record GivenParts (begun : List ℕ) (o : Option CurrentEntry) (q : List ℕ) (c : ℕ) (e : EntryData) : Type 0 where
    pub x : CurrentEntry
    pub present : o ≡ Some x
    pub in_line : x.in_line ≡ true
    pub given : List ℕ
    pub split : q ≡ given ++ x.path.items
    pub nul : c ≡ 0
    pub entries : SnapText profile (e ∷ []) given
    pub other : e.path ≢ x.path.items
    pub good : IsPath x.path.items
    pub alone : HasConsumedInLine profile begun x (x.path.items ++ 0 ∷ []) []

  -- The bytes before don't close the entry.
  not_before : (q : List ℕ) (e : EntryData) → Closed profile q [] → Closed profile q (e ∷ []) → ⊥
  not_before q e a b = let same = closed_once profile q [] (e ∷ []) a b in absurd (cc)

  pushed : (q given back : List ℕ) (c d : ℕ) → q ++ c ∷ [] ≡ given ++ (back ++ d ∷ []) → (q ≡ given ++ back) × (c ≡ d)
  pushed q given back c d e = push_one q (given ++ back) c d (e ∙ sym (append_assoc given back (d ∷ [])))

  line_earlier : (begun : List ℕ) (x : CurrentEntry) (q : List ℕ) (c : ℕ) (e : EntryData) (h : HasConsumedInLine profile begun x (q ++ c ∷ []) (e ∷ [])) → Closed profile q [] → (front : List ℕ) (d : ℕ) → h.line ≡ front ++ d ∷ [] → ⊥
  line_earlier begun x q c e h none front d f =
      let path = x.path.items in
      let text : q ++ c ∷ [] ≡ h.given ++ ((records path h.lines ++ (path ++ 0 ∷ front)) ++ d ∷ []) = h.split ∙ rw f (simp append_assoc) in
      let s = pushed q h.given (records path h.lines ++ (path ++ 0 ∷ front)) c d text in
      let start = line_start path h.lines front in
      not_before q e none (record {
        given = h.given;
        present = records path h.lines ++ (path ++ 0 ∷ front);
        path = path;
        split = s.0;
        entries = h.entries;
        good = h.good;
        of_path = record { lines = h.lines; begun = path ++ 0 ∷ front; split = refl; plain = h.plain; last = inr (front, lacks_left 10 front (d ∷ []) (subst (Lacks 10) f h.plain_line), refl) };
        begun = λ n. (start.0, start.1);
        other = h.other;
      })

  path_earlier : (begun : List ℕ) (x : CurrentEntry) (q : List ℕ) (c : ℕ) (e : EntryData) (given back tail : List ℕ) (lines : List (List ℕ)) → q ≡ given ++ (records x.path.items lines ++ tail) → SnapText profile (e ∷ []) given → IsPath x.path.items →
      lines ≢ [] → AllByRecursion (Lacks 10) lines → Lacks 0 tail → Lacks 10 tail → EndsOther (e ∷ []) x.path.items → Closed profile q [] → ⊥
  path_earlier begun x q c e given back tail lines split entries good some plain nul newline other none =
      let start = records_start x.path.items lines tail some in
      not_before q e none (record {
        given = given;
        present = records x.path.items lines ++ tail;
        path = x.path.items;
        split = split;
        entries = entries;
        good = good;
        of_path = record { lines = lines; begun = tail; split = refl; plain = plain; last = inl (nul, newline) };
        begun = λ n. (start.0, start.1);
        other = other;
      })

  line_given : (begun : List ℕ) (x : CurrentEntry) (q : List ℕ) (c : ℕ) (e : EntryData) → x.in_line ≡ true → Closed profile q [] → (h : HasConsumedInLine profile begun x (q ++ c ∷ []) (e ∷ [])) →
      (lines : List (List ℕ)) → h.lines ≡ lines → h.line ≡ [] → GivenParts begun (Some x) q c e
  line_given begun x q c e flag none h [] a b =
      let path = x.path.items in
      let text : q ++ c ∷ [] ≡ h.given ++ (path ++ 0 ∷ []) = h.split ∙ rw (a, b) refl in
      let s = pushed q h.given path c 0 text in
      record {
        x = x;
        present = refl;
        in_line = flag;
        given = h.given;
        split = s.0;
        nul = s.1;
        entries = h.entries;
        other = h.other;
        good = h.good;
        alone = record {
          given = [];
          lines = [];
          line = [];
          kind = h.kind;
          split = refl;
          entries = refl;
          other = tt;
          good = h.good;
          reads_at = h.reads_at;
          plain = tt;
          plain_line = tt;
          reads = rw (a, b) at h.reads;
          goes = rw (a, b) at h.goes;
          nothing_begun = h.nothing_begun;
          count = rw a at h.count;
        };
      }
  line_given begun x q c e flag none h (l ∷ ls) a b =
      let path = x.path.items in
      let text : q ++ c ∷ [] ≡ h.given ++ ((records path (l ∷ ls) ++ path) ++ 0 ∷ []) = h.split ∙ rw (a, b) (simp append_assoc) in
      let s = pushed q h.given (records path (l ∷ ls) ++ path) c 0 text in
      absurd (path_earlier begun x q c e h.given [] path (l ∷ ls) s.0 h.entries h.good (λ z. absurd (cc)) (subst (AllByRecursion (Lacks 10)) a h.plain) (path_lacks_nul path h.good) (path_lacks_newline path h.good) h.other none)

  path_given : (begun : List ℕ) (x : CurrentEntry) (q : List ℕ) (c : ℕ) (e : EntryData) → Closed profile q [] → HasConsumedInPath profile begun x (q ++ c ∷ []) (e ∷ []) → ⊥
  path_given begun x q c e none h =
      let path = x.path.items in
      elim (snoc begun) [
        | inr t ↦
            let text : q ++ c ∷ [] ≡ h.given ++ ((records path h.lines ++ t.0) ++ t.1 ∷ []) = h.split ∙ rw (t.2) (simp append_assoc) in
            let s = pushed q h.given (records path h.lines ++ t.0) c t.1 text in
            let nul : Lacks 0 (t.0 ++ t.1 ∷ []) = subst (Lacks 0) t.2 (bytes_no_nul begun h.begun_path) in
            let newline : Lacks 10 (t.0 ++ t.1 ∷ []) = subst (Lacks 10) t.2 (bytes_no_newline begun h.begun_path) in
            path_earlier begun x q c e h.given [] t.0 h.lines s.0 h.entries h.good h.some h.plain (lacks_left 0 t.0 (t.1 ∷ []) nul) (lacks_left 10 t.0 (t.1 ∷ []) newline) h.other none
        | inl z ↦
            let l = lines_snoc h.lines h.some in
            let last : records path l.0 ++ records path (l.1 ∷ []) ≡ (records path l.0 ++ (path ++ 0 ∷ l.1)) ++ 10 ∷ [] = simp append_assoc in
            let all : records path h.lines ++ begun ≡ (records path l.0 ++ (path ++ 0 ∷ l.1)) ++ 10 ∷ [] =
            ap (λ (u : List ℕ). records path h.lines ++ u) z ∙ (append-nil (records path h.lines) ∙ (ap (λ (ls : List (List ℕ)). records path ls) l.2 ∙ (records-append path l.0 (l.1 ∷ []) ∙ last))) in
            let text : q ++ c ∷ [] ≡ h.given ++ ((records path l.0 ++ (path ++ 0 ∷ l.1)) ++ 10 ∷ []) = h.split ∙ ap (λ (u : List ℕ). h.given ++ u) all in
            let s = pushed q h.given (records path l.0 ++ (path ++ 0 ∷ l.1)) c 10 text in
            let start = line_start path l.0 l.1 in
            let plain : AllByRecursion (Lacks 10) (l.0 ++ l.1 ∷ []) = subst (AllByRecursion (Lacks 10)) l.2 h.plain in
            not_before q e none (record {
              given = h.given;
              present = records path l.0 ++ (path ++ 0 ∷ l.1);
              path = path;
              split = s.0;
              entries = h.entries;
              good = h.good;
              of_path = record { lines = l.0; begun = path ++ 0 ∷ l.1; split = refl; plain = all_front (Lacks 10) l.0 (l.1 ∷ []) plain; last = inr (l.1, all_last (Lacks 10) l.0 l.1 plain, refl) };
              begun = λ n. (start.0, start.1);
              other = h.other;
            })
      ]

  pub given_parts : (begun : List ℕ) (o : Option CurrentEntry) (q : List ℕ) (c : ℕ) (e : EntryData) → Closed profile q [] → HasConsumed profile begun o (q ++ c ∷ []) (e ∷ []) → GivenParts begun o q c e
  given_parts begun None q c e none h = let z = h.none in absurd (cc)
  given_parts begun (Some x) q c e none h = by x.in_line refl h
    where
      by_line : x.in_line ≡ true → HasConsumedInLine profile begun x (q ++ c ∷ []) (e ∷ []) → GivenParts begun (Some x) q c e
      by_line flag a =
          elim (snoc a.line) [
            | inl z ↦ line_given begun x q c e flag none a a.lines refl z
            | inr t ↦ absurd (line_earlier begun x q c e a none t.0 t.1 t.2)
          ]

      by : (b : Bool) → x.in_line ≡ b → MatchBool x.in_line (HasConsumedInLine profile begun x (q ++ c ∷ []) (e ∷ [])) (HasConsumedInPath profile begun x (q ++ c ∷ []) (e ∷ [])) → GivenParts begun (Some x) q c e
      by true flag m = by_line flag (MatchBool-at_true _ _ flag m)
      by false flag m = absurd (path_given begun x q c e none (MatchBool-at_false _ _ flag m))

  -- ---- The block that the NUL begins is read as though no other came.

  module _ (limits : Limits) (s : SnapshotRecords) (old new : Meter) (q : List ℕ) (c : ℕ) (e : EntryData) (g : GivenParts s.begun.items s.present q c e) (h : HasProgressed (snap_stream profile) s old (q ++ c ∷ []) (e ∷ []))
      (is : old.limits ≡ limits) (same : new.limits ≡ old.limits) (offset : new.offset ≡ old.record_len) (len : new.record_len ≡ old.record_len) where
    abbrev path : List ℕ
    path = g.x.path.items

    abbrev whole : List ℕ
    whole = path ++ 0 ∷ []

    text : q ++ c ∷ [] ≡ (g.given ++ path) ++ 0 ∷ []
    text = ap (λ (u : List ℕ). u ++ c ∷ []) g.split ∙ ap (λ (d : ℕ). (g.given ++ path) ++ d ∷ []) g.nul

    unstopped : IsSnapUnstopped profile limits ((g.given ++ path) ++ 0 ∷ [])
    unstopped = subst (IsSnapUnstopped profile limits) text (subst (λ (l : Limits). IsSnapUnstopped profile l (q ++ c ∷ [])) is h.unstopped)

    pub given_unstopped : IsSnapUnstopped profile limits (g.given ++ path)
    given_unstopped = unstopped_front (Snap profile) (IsRecordWhy profile) (IsManyRecords profile) limits (g.given ++ path) (0 ∷ []) unstopped

    begins : IsBegun (g.given ++ path) path
    begins = begun_after profile (e ∷ []) g.given path [] (g.given ++ path) path g.entries refl (path_lacks_newline path g.good)

    pub path_room : length path < limits.max_record
    path_room = room_before (Snap profile) (IsRecordWhy profile) (IsManyRecords profile) limits (g.given ++ path) path 0 begins unstopped

    at : HasConsumed profile s.begun.items (Some g.x) whole []
    at = at_true (HasConsumedInLine profile s.begun.items g.x whole []) (HasConsumedInPath profile s.begun.items g.x whole []) g.x.in_line g.in_line g.alone

    at_present : HasConsumed profile s.begun.items s.present whole []
    at_present = subst (λ (o : Option CurrentEntry). HasConsumed profile s.begun.items o whole []) (sym g.present) at

    far : length whole ≤ limits.max_stream
    far = omega (arith, ap (λ (l : Limits). l.max_stream) is, h.counted.within, ap length text, length-append (g.given ++ path) (0 ∷ []), length-append g.given path, length-append path (0 ∷ []))

    none_many : IsManyRecords profile limits.max_lines (path ++ 0 ∷ []) (length path) → ⊥
    none_many m =
        let before : HasBefore profile path path 0 = record { es = []; given = []; lines = []; whole = refl; entries = refl; good = g.good; other = tt; plain = tt; count = refl } in
        let long : HasBefore profile (g.given ++ path) path 0 = record { es = e ∷ []; given = g.given; lines = []; whole = append_assoc g.given path (0 ∷ []); entries = g.entries; good = g.good; other = g.other; plain = tt; count = refl } in
        elim (cases_lt 0 limits.max_lines) [
          | inl lt ↦ few_many profile path path 0 limits.max_lines (length path) before lt m
          | inr le ↦
              (unstopped (length (g.given ++ path)) (omega (arith, length_push (g.given ++ path) 0))).few
              (rw (all_of (Snap profile) (IsRecordWhy profile) (IsManyRecords profile) (g.given ++ path) 0) (is_many profile (g.given ++ path) path 0 limits.max_lines (length (g.given ++ path)) long le))
        ]

    alone_unstopped : IsSnapUnstopped profile limits whole
    alone_unstopped =
        let bytes : ArePathBytes path = path_bytes path g.good.bytes in
        unstopped_push (Snap profile) (IsRecordWhy profile) (IsManyRecords profile) limits path 0 (start_unstopped profile limits path bytes (omega (arith, path_room)) (omega (arith, far, length-append path (0 ∷ []))))
        (at_viable profile s.begun.items (Some g.x) whole [] at) (record {
          short = not_long path path 0 limits.max_record (length path) (record { front = []; split = refl; ended = inl refl; plain = path_lacks_newline path g.good }) path_room;
          few = none_many;
          before = λ z. absurd (omega (arith, z, far, length-append path (0 ∷ [])));
        })

    counted : IsCounted new whole
    counted =
        let long : IsBegun (q ++ c ∷ []) whole = subst (λ (t : List ℕ). IsBegun t whole) (sym (text ∙ append_assoc g.given path (0 ∷ []))) (begun_after profile (e ∷ []) g.given path [] (g.given ++ whole) whole g.entries refl (nul_plain path [] g.good tt)) in
        let size : old.record_len ≡ length whole = h.counted.length_is ∙ ap length (begun_once (q ++ c ∷ []) h.counted.begun whole h.counted.begins long) in
        record {
          offset = offset ∙ size;
          within = omega (arith, far, ap (λ (l : Limits). l.max_stream) (same ∙ is));
          begun = whole;
          begins = record { front = []; split = refl; ended = inl refl; plain = nul_plain path [] g.good tt };
          length_is = len ∙ size;
        }

    pub begun_along : HasProgressed (snap_stream profile) s new whole []
    begun_along = record {
      state = taken_records s profile whole [] h.state.profile_is at_present;
      counted = counted;
      unstopped = subst (λ (l : Limits). IsSnapUnstopped profile l whole) (sym (same ∙ is)) alone_unstopped;
      closed = at_closed profile s.begun.items s.present whole [] at_present;
    }

-- ---- What ends a block, whatever stands before it

module _ (profile : Profile) (t : GoingOnRecords) (old : Meter) (block front : List ℕ) (used : ℕ) (e : EntryData) (some : 0 < used) (within : used ≤ length front) (closed : Closed profile (block ++ take (used - 1) front) [])
    (along : HasProgressed (snap_stream profile) t.block old (block ++ take used front) (e ∷ [])) (same : t.meter.limits ≡ old.limits) (offset : t.meter.offset ≡ old.record_len) (len : t.meter.record_len ≡ old.record_len) where
  abbrev before : List ℕ
  before = block ++ take (used - 1) front

  abbrev last : ℕ
  last = get_or front (used - 1) 0

  whole_block : before ++ last ∷ [] ≡ block ++ take used front
  whole_block =
      let next : used - 1 + 1 ≡ used = omega (arith, some) in
      taken_more block front (used - 1) (omega (arith, some, within)) ∙ ap (λ (n : ℕ). block ++ take n front) next

  with_last : HasProgressed (snap_stream profile) t.block old (before ++ last ∷ []) (e ∷ [])
  with_last = subst (λ (u : List ℕ). HasProgressed (snap_stream profile) t.block old u (e ∷ [])) (sym whole_block) along

  parts : GivenParts profile t.block.begun.items t.block.present before last e
  parts = given_parts profile t.block.begun.items t.block.present before last e closed with_last.state.at

  abbrev next : List ℕ
  next = parts.x.path.items

  given_is : parts.given ≡ records e.path (parts.entries.0)
  given_is = parts.entries.4 ∙ ap (λ (u : List ℕ). records e.path (parts.entries.0) ++ u) parts.entries.5 ∙ append-nil (records e.path (parts.entries.0))

  split : block ++ take used front ≡ parts.given ++ (next ++ 0 ∷ [])
  split = sym whole_block ∙ ap (λ (u : List ℕ). u ++ last ∷ []) parts.split ∙ ap (λ (d : ℕ). (parts.given ++ next) ++ d ∷ []) parts.nul ∙ append_assoc parts.given next (0 ∷ [])

  ended : IsRecordEnd parts.given
  ended = subst IsRecordEnd (sym given_is) (records_end e.path [] (parts.entries.0) (inl refl))

  begun : HasProgressed (snap_stream profile) t.block t.meter (next ++ 0 ∷ []) []
  begun = begun_along profile old.limits t.block old t.meter before last e parts with_last refl same offset len

  pub block_ended : EndsBlock profile t (block ++ take used front) e
  block_ended = (record { front = parts.given; ended = ended; next = next; good = parts.good; split = split; begun = begun }, parts.entries)

  -- So they begin another behind whole lines that stand before the block.
  pub block_begun : (lines : List ℕ) → IsRecordEnd lines → BeginsBlock profile t (lines ++ (block ++ take used front))
  block_begun lines whole = record {
    front = lines ++ parts.given;
    ended = record_end_both lines parts.given whole ended;
    next = next;
    good = parts.good;
    split = ap (λ (u : List ℕ). lines ++ u) split ∙ sym (append_assoc lines parts.given (next ++ 0 ∷ []));
    begun = begun;
  }
