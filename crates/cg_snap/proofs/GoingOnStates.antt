-- What the states of records that go on say of the bytes that came.
use Rattle.std.proofs.Common.{◌≡◌, ℕ, ◌<◌, List, [], ◌∷◌, ◌++◌, length, refl, sym, ap, subst, ◌∙◌, append_assoc, arith, Option, Some, None, inl, inr, ◌⊎◌}
use Rattle.std.proofs.lemmas.List.{append-nil}
use Rattle.cg_text.specs.Texts.{Lacks}
use Rattle.cg_text.specs.TextsLaws.{lacks_inside}
use Rattle.cg_value.specs.Entry.{EntryData, IsPath}
use Rattle.cg_value.specs.PathLaws.{path_lacks_newline, path_lacks_nul}
use Rattle.cg_value.specs.Records.{records}
use Rattle.cg_value.specs.declared.profile.Profile.{Profile}
use Rattle.cg_line.specs.SplitLaws.{cut}
use Rattle.cg_snap.specs.Begun.{IsBegun, IsRecordEnd}
use Rattle.cg_snap.specs.Course.{HasProgressed}
use Rattle.cg_snap.specs.DecoderState.{HasConsumed, HasConsumedInLine, HasConsumedInPath}
use Rattle.cg_snap.specs.GoingOn.{AreOfOnePath, AreTold, AreToldBy, EndsLeftOut, IsBehind, IsPresent, IsWithin, Told, block_limits}
use Rattle.cg_snap.specs.GoingOn.AreTold.{more}
use Rattle.cg_snap.specs.GoingOnState.{HasOther, HasTold, IsFirst, IsPassingOver, IsReading}
use Rattle.cg_snap.specs.PathBytes.{ArePathBytes}
use Rattle.cg_snap.specs.Snap.{Snap}
use Rattle.cg_snap.specs.SnapStop.{IsManyRecords, IsRecordWhy, IsSnapUnstopped}
use Rattle.cg_snap.specs.Streams.{snap_stream}
use Rattle.cg_snap.specs.declared.going_on_records.GoingOnRecords.{GoingOnRecords}
use Rattle.cg_snap.specs.declared.limits.Limits.{Limits}
use Rattle.cg_snap.specs.declared.present.CurrentEntry.{CurrentEntry}
use Rattle.cg_snap.proofs.Closes.{path_begun, records_end, start_begun}
use Rattle.cg_snap.proofs.GoingOnFaults.{begun_room, start_of}
use Rattle.cg_snap.proofs.Refusals.{line_start, records_start}
use Rattle.cg_snap.proofs.States.{by_flag}
use Rattle.cg_snap.proofs.Steps.{bytes_no_newline, bytes_no_nul, lacks_right}
use Rattle.cg_snap.proofs.Stops.{room_before, unstopped_front}

-- ---- A block that is read alone

-- The bytes of a block that began with this path: its own, and what came of a line whose path isn't known.
pub record Parts (own bytes : List ℕ) : Type 0 where
  pub block : List ℕ
  pub tail : List ℕ
  pub split : bytes ≡ block ++ tail
  pub of_path : AreOfOnePath own block
  pub no_nul : Lacks 0 tail
  pub plain : Lacks 10 tail
  pub begins : (tail ≡ []) ⊎ IsBegun bytes tail
  pub ended : (tail ≡ []) ⊎ IsRecordEnd block

nul_in : (a b : List ℕ) → Lacks 0 (a ++ 0 ∷ b) → ⊥
nul_in a b h = lacks_inside 0 a b h

module _ (profile : Profile) where
  -- ---- Where no NUL came

  pub record HasNoNul (begun : List ℕ) (o : Option CurrentEntry) (bytes : List ℕ) : Type 0 where
    pub none : o ≡ None
    pub bytes_are : bytes ≡ begun
    pub path : ArePathBytes begun

  line_nul : (begun : List ℕ) (x : CurrentEntry) (bytes : List ℕ) (es : List EntryData) → Lacks 0 bytes → HasConsumedInLine profile begun x bytes es → ⊥
  line_nul begun x bytes es n h =
      let s = line_start x.path.items h.lines h.line in
      nul_in x.path.items s.0 (subst (Lacks 0) s.1 (lacks_right 0 h.given _ (subst (Lacks 0) h.split n)))

  path_nul : (begun : List ℕ) (x : CurrentEntry) (bytes : List ℕ) (es : List EntryData) → Lacks 0 bytes → HasConsumedInPath profile begun x bytes es → ⊥
  path_nul begun x bytes es n h =
      let s = records_start x.path.items h.lines begun h.some in
      nul_in x.path.items s.0 (subst (Lacks 0) s.1 (lacks_right 0 h.given _ (subst (Lacks 0) h.split n)))

  pub no_nul : (begun : List ℕ) (o : Option CurrentEntry) (bytes : List ℕ) (es : List EntryData) → Lacks 0 bytes → HasConsumed profile begun o bytes es → HasNoNul begun o bytes
  no_nul begun None bytes es n h = record { none = refl; bytes_are = h.bytes; path = h.begun_path }
  no_nul begun (Some x) bytes es n h = absurd (by_flag (HasConsumedInLine profile begun x bytes es) (HasConsumedInPath profile begun x bytes es) ⊥ x.in_line h (line_nul begun x bytes es n) (path_nul begun x bytes es n))

  -- ---- Where one came

  -- The bytes of the first block begin with the present path.
  pub record IsOf (x : CurrentEntry) (bytes : List ℕ) : Type 0 where
    pub rest : List ℕ
    pub starts : bytes ≡ x.path.items ++ 0 ∷ rest
    pub good : IsPath x.path.items

  line_of : (begun : List ℕ) (x : CurrentEntry) (bytes : List ℕ) → HasConsumedInLine profile begun x bytes [] → IsOf x bytes
  line_of begun x bytes h =
      let s = line_start x.path.items h.lines h.line in
      record { rest = s.0; starts = h.split ∙ ap (λ (t : List ℕ). t ++ (records x.path.items h.lines ++ (x.path.items ++ 0 ∷ h.line))) h.entries ∙ s.1; good = h.good }

  path_of : (begun : List ℕ) (x : CurrentEntry) (bytes : List ℕ) → HasConsumedInPath profile begun x bytes [] → IsOf x bytes
  path_of begun x bytes h =
      let s = records_start x.path.items h.lines begun h.some in
      record { rest = s.0; starts = h.split ∙ ap (λ (t : List ℕ). t ++ (records x.path.items h.lines ++ begun)) h.entries ∙ s.1; good = h.good }

  pub present_of : (begun : List ℕ) (x : CurrentEntry) (bytes : List ℕ) → HasConsumed profile begun (Some x) bytes [] → IsOf x bytes
  present_of begun x bytes h = by_flag (HasConsumedInLine profile begun x bytes []) (HasConsumedInPath profile begun x bytes []) (IsOf x bytes) x.in_line h (line_of begun x bytes) (path_of begun x bytes)

  -- The present path is that with which the bytes begin.
  pub same_own : (begun : List ℕ) (x : CurrentEntry) (bytes own rest : List ℕ) → HasConsumed profile begun (Some x) bytes [] → IsPath own → bytes ≡ own ++ 0 ∷ rest → x.path.items ≡ own
  same_own begun x bytes own rest h g e =
      let o = present_of begun x bytes h in
      (cut 0 x.path.items own o.rest rest (path_lacks_nul x.path.items o.good) (path_lacks_nul own g) (sym o.starts ∙ e)).0

  line_parts : (begun : List ℕ) (x : CurrentEntry) (bytes : List ℕ) → HasConsumedInLine profile begun x bytes [] → Parts x.path.items bytes
  line_parts begun x bytes h = record {
    block = bytes;
    tail = [];
    split = sym (append-nil bytes);
    of_path = record {
      lines = h.lines;
      begun = x.path.items ++ 0 ∷ h.line;
      split = h.split ∙ ap (λ (t : List ℕ). t ++ (records x.path.items h.lines ++ (x.path.items ++ 0 ∷ h.line))) h.entries;
      plain = h.plain;
      last = inr (h.line, h.plain_line, refl);
    };
    no_nul = tt;
    plain = tt;
    begins = inl refl;
    ended = inl refl;
  }

  path_parts : (begun : List ℕ) (x : CurrentEntry) (bytes : List ℕ) → HasConsumedInPath profile begun x bytes [] → Parts x.path.items bytes
  path_parts begun x bytes h = record {
    block = records x.path.items h.lines;
    tail = begun;
    split = h.split ∙ ap (λ (t : List ℕ). t ++ (records x.path.items h.lines ++ begun)) h.entries;
    of_path = record { lines = h.lines; begun = []; split = sym (append-nil (records x.path.items h.lines)); plain = h.plain; last = inl (refl, h.some) };
    no_nul = bytes_no_nul begun h.begun_path;
    plain = bytes_no_newline begun h.begun_path;
    begins = inr (path_begun profile begun x bytes [] h);
    ended = inr (records_end x.path.items [] h.lines (inl refl));
  }

  some_parts : (begun : List ℕ) (x : CurrentEntry) (bytes : List ℕ) → HasConsumed profile begun (Some x) bytes [] → Parts x.path.items bytes
  some_parts begun x bytes h = by_flag (HasConsumedInLine profile begun x bytes []) (HasConsumedInPath profile begun x bytes []) (Parts x.path.items bytes) x.in_line h (line_parts begun x bytes) (path_parts begun x bytes)

  pub parts : (begun : List ℕ) (o : Option CurrentEntry) (bytes own rest : List ℕ) → HasConsumed profile begun o bytes [] → IsPath own → bytes ≡ own ++ 0 ∷ rest → Parts own bytes
  parts begun None bytes own rest h g e = absurd (nul_in own rest (subst (Lacks 0) (sym h.bytes ∙ e) (bytes_no_nul begun h.begun_path)))
  parts begun (Some x) bytes own rest h g e = subst (λ (q : List ℕ). Parts q bytes) (same_own begun x bytes own rest h g e) (some_parts begun x bytes h)

-- ---- What a state tells

module _ (profile : Profile) (limits : Limits) where
  abbrev Unstopped : List ℕ → Type 0
  Unstopped = IsSnapUnstopped profile (block_limits limits)

  pub front_unstopped : (bytes more : List ℕ) → Unstopped (bytes ++ more) → Unstopped bytes
  front_unstopped = unstopped_front (Snap profile) (IsRecordWhy profile) (IsManyRecords profile) (block_limits limits)

  -- A path whose NUL stops nothing has room in a record.
  pub own_room : (own rest : List ℕ) → IsPath own → Unstopped (own ++ 0 ∷ rest) → length own < limits.max_record
  own_room own rest g u =
      let front : Unstopped (own ++ 0 ∷ []) = front_unstopped (own ++ 0 ∷ []) rest (subst Unstopped (sym (append_assoc own (0 ∷ []) rest)) u) in
      room_before (Snap profile) (IsRecordWhy profile) (IsManyRecords profile) (block_limits limits) own own 0 (record { front = []; split = refl; ended = inl refl; plain = path_lacks_newline own g }) front

  pub along_unstopped : (s : GoingOnRecords) (block : List ℕ) (es : List EntryData) → s.meter.limits ≡ block_limits limits → HasProgressed (snap_stream profile) s.block s.meter block es → Unstopped block
  along_unstopped s block es e h = subst (λ (l : Limits). IsSnapUnstopped profile l block) e h.unstopped

  -- While the rest of a line is passed over.
  pub passing_blocks : (s : GoingOnRecords) (p : List ℕ) (told : List Told) (h : IsPassingOver s profile limits p told) → AreTold profile limits p h.block.path told
  passing_blocks s p told h = more h.front h.last h.before h.block (inr h.out) h.blocks h.follows h.at_fault h.split refl h.told_is

  pub passing_left : (s : GoingOnRecords) (p : List ℕ) (told : List Told) → IsPassingOver s profile limits p told → EndsLeftOut profile limits told
  passing_left s p told h = inr (h.before, h.out, h.told_is)

  passing_told : (s : GoingOnRecords) (p : List ℕ) (told : List Told) → IsPassingOver s profile limits p told → AreToldBy profile limits p told
  passing_told s p told h = inl (record {
    front = p;
    path = h.block.path;
    blocks = passing_blocks s p told h;
    left_out = passing_left s p told h;
    tail = [];
    split = sym (append-nil p);
    is_open = record { no_nul = tt; plain = tt; short = omega arith };
    ended = inl refl;
  })

  -- While a block is read of which no NUL came.
  first_present : (s : GoingOnRecords) (p : List ℕ) (told : List Told) (h : IsReading s profile limits p told) → s.meter.limits ≡ block_limits limits → IsFirst s profile limits p told h.path h.block →
      (x : IsBehind profile limits p told) × IsRecordEnd x.front × (h.block ≡ x.tail)
  first_present s p told h e f =
      let n = no_nul profile s.block.begun.items s.block.present h.block [] f.no_nul h.along.state.at in
      let path : ArePathBytes h.block = subst ArePathBytes (sym n.bytes_are) n.path in (
        record {
          front = h.front;
          path = h.path;
          blocks = h.blocks;
          left_out = f.left_out;
          tail = h.block;
          split = h.split;
          is_open = record {
            no_nul = f.no_nul;
            plain = bytes_no_newline h.block path;
            short = begun_room profile (block_limits limits) h.block h.block (start_begun h.block h.block [] (start_of h.block path)) (along_unstopped s h.block [] e h.along);
          };
          ended = inr h.ended;
        },
        h.ended,
        refl,
      )

  -- While a block is read.
  other_present : (s : GoingOnRecords) (p : List ℕ) (told : List Told) (h : IsReading s profile limits p told) → s.meter.limits ≡ block_limits limits → HasOther s profile limits p told h.path h.block →
      (x : IsWithin profile limits p told) × (h.block ≡ x.block.bytes ++ x.tail)
  other_present s p told h e o =
      let d = parts profile s.block.begun.items s.block.present h.block o.own o.rest h.along.state.at o.good o.split in
      let u : Unstopped h.block = along_unstopped s h.block [] e h.along in (
        record {
          front = h.front;
          path = h.path;
          blocks = h.blocks;
          block = record { path = Some o.own; bytes = d.block };
          follows = record {
            ended = h.ended;
            is_block = (o.good, own_room o.own o.rest o.good (subst Unstopped o.split u), d.of_path);
            other = λ q a b. o.other (a ∙ sym b);
          };
          unstopped = front_unstopped d.block d.tail (subst Unstopped d.split u);
          tail = d.tail;
          split = h.split ∙ ap (λ (t : List ℕ). h.front ++ t) d.split;
          is_open = record {
            no_nul = d.no_nul;
            plain = d.plain;
            short = elim d.begins [ inl z ↦ omega (arith, ap length z) | inr b ↦ begun_room profile (block_limits limits) h.block d.tail b u ];
          };
          ended = d.ended;
        },
        d.split,
      )

  -- What came of the block that is read.
  pub reading_present : (s : GoingOnRecords) (p : List ℕ) (told : List Told) → s.meter.limits ≡ block_limits limits → (h : IsReading s profile limits p told) → IsPresent profile limits p h.block
  reading_present s p told e h = (told, elim h.state [ inl f ↦ inl (first_present s p told h e f) | inr o ↦ inr (other_present s p told h e o) ])

  reading_told : (s : GoingOnRecords) (p : List ℕ) (told : List Told) → s.meter.limits ≡ block_limits limits → (h : IsReading s profile limits p told) → AreToldBy profile limits p told
  reading_told s p told e h = elim h.state [ inl f ↦ inl ((first_present s p told h e f).0) | inr o ↦ inr ((other_present s p told h e o).0) ]

  pub told_closed : (s : GoingOnRecords) (p : List ℕ) (told : List Told) → HasTold s profile limits p told → AreToldBy profile limits p told
  told_closed s p told h = by_flag (IsPassingOver s profile limits p told) (IsReading s profile limits p told) (AreToldBy profile limits p told) s.is_passing h.state (passing_told s p told) (reading_told s p told h.meter_is)
