-- What bytes leave of records that go on, and what they find.
use Rattle.std.proofs.Common.{◌≡◌, ℕ, zero, suc, ◌+◌, ◌-◌, ◌<◌, ◌≤◌, List, [], ◌∷◌, ◌++◌, length, take, get_or, refl, sym, ap, subst, ◌∙◌, append_assoc, arith, Option, Some, None, inl, inr, ◌⊎◌}
use Rattle.std.specs.List.{AllByRecursion}
use Rattle.std.proofs.lemmas.Bool.{cases_lt}
use Rattle.std.proofs.lemmas.List.{append-nil}
use Rattle.cg_text.specs.Texts.{Lacks, Next}
use Rattle.cg_text.specs.TextsLaws.{lacks_inside}
use Rattle.cg_value.specs.Entry.{EntryData}
use Rattle.cg_value.specs.EntryLaws.{entry_path}
use Rattle.cg_value.specs.PathLaws.{path_lacks_newline, path_lacks_nul}
use Rattle.cg_value.specs.Records.{records}
use Rattle.cg_value.specs.declared.profile.Profile.{Profile}
use Rattle.cg_line.specs.SplitLaws.{cut}
use Rattle.cg_snap.specs.Begun.{IsRecordEnd}
use Rattle.cg_snap.specs.Closed.{Closed}
use Rattle.cg_snap.specs.Course.{Advances, AreFew, AreOfRecord, HasProgressed, Leaves}
use Rattle.cg_snap.specs.GoingOn.{AreToldBy, Block, Follows, IsAtFault, Told, block_limits, told_by, told_entry, told_out}
use Rattle.cg_snap.specs.GoingOn.AreTold.{more}
use Rattle.cg_snap.specs.GoingOnState.{AreLines, FaultLeaves, HasFound, HasOther, HasTold, HaveFaults, IsFaultOf, IsFirst, IsReading, IsUnsettled, IsWholeStop, going_stream, many_of_none}
use Rattle.cg_snap.specs.SnapLaws.{lines_plain}
use Rattle.cg_snap.specs.SnapStop.{IsSnapUnstopped, SnapStopOf}
use Rattle.cg_snap.specs.Streams.{snap_stream}
use Rattle.cg_snap.specs.declared.event.Event.{Event}
use Rattle.cg_snap.specs.declared.event.Event.TheVariants as events
use Rattle.cg_snap.specs.declared.fault.Fault.{Fault}
use Rattle.cg_snap.specs.declared.going_on.Found.{Found}
use Rattle.cg_snap.specs.declared.going_on.LeftOut.{LeftOut}
use Rattle.cg_snap.specs.declared.going_on_records.GoingOnRecords.{GoingOnRecords}
use Rattle.cg_snap.specs.declared.limits.Limits.{Limits}
use Rattle.cg_snap.specs.declared.meter.Meter.{Meter}
use Rattle.cg_snap.specs.declared.snapshot_records.SnapshotRecords.{SnapshotRecords}
use Rattle.cg_snap.specs.declared.stop.Stop.{Stop}
use Rattle.cg_snap.specs.declared.stop.Stop.TheVariants as stops
use Rattle.cg_snap.proofs.Closes.{records_end}
use Rattle.cg_snap.proofs.Courses.{taken_more}
use Rattle.cg_snap.proofs.GoingOnFaults.{stops_here}
use Rattle.cg_snap.proofs.GoingOnGiven.{GivenParts, begun_along, given_parts, given_unstopped, path_room}
use Rattle.cg_snap.proofs.GoingOnMoves.{none_some, record_end_both, some_inj}
use Rattle.cg_snap.proofs.GoingOnStates.{front_unstopped, own_room, told_closed}
use Rattle.cg_snap.proofs.Refusals.{records_start}
use Rattle.cg_snap.proofs.Steps.{all_both}

abbrev IsByte : ℕ → Type 0
IsByte b = b < 256

small_take : (bytes : List ℕ) (n : ℕ) → ((i : ℕ) → get_or bytes i 0 < 256) → AllByRecursion IsByte (take n bytes)
small_take bytes zero h = tt
small_take [] (suc n) h = tt
small_take (b ∷ bytes) (suc n) h = (h 0, small_take bytes n (λ i. h (suc i)))

pub few_none : (max : ℕ) (p run : List ℕ) → AreFew (many_of_none max) p run
few_none max p [] = tt
few_none max p (b ∷ run) = ((λ z. z), few_none max (p ++ b ∷ []) run)

pub told_by_push : (found : List Found) (f : Found) → told_by (found ++ f ∷ []) ≡ told_by found ++ (told_entry f.entry ++ told_out f.left_out)
told_by_push [] f = append-nil (told_entry f.entry ++ told_out f.left_out)
told_by_push (g ∷ found) f = ap (λ (t : List Told). (told_entry g.entry ++ told_out g.left_out) ++ t) (told_by_push found f) ∙ sym (append_assoc (told_entry g.entry ++ told_out g.left_out) (told_by found) (told_entry f.entry ++ told_out f.left_out))

pub one_of_record : (b : ℕ) → AreOfRecord (b ∷ [])
one_of_record b = elim (cases_lt b 10) [
  | inl lt ↦ inl ((λ e. absurd (omega (arith, e, lt))), tt)
  | inr ge ↦ elim (cases_lt 10 b) [
    | inl lt ↦ inl ((λ e. absurd (omega (arith, e, lt))), tt)
    | inr le ↦ let same : b ≡ 10 = omega (arith, le, ge) in inr ([], ap (λ (c : ℕ). c ∷ []) same, tt)
  ]
]

pub few_of_record : (bytes : List ℕ) (used : ℕ) → used ≤ 1 → AreOfRecord (take used bytes)
few_of_record bytes zero le = inl tt
few_of_record [] (suc n) le = inl tt
few_of_record (b ∷ bytes) (suc zero) le = one_of_record b
few_of_record (b ∷ bytes) (suc (suc n)) le = absurd (omega (arith, le))

-- ---- What came before a byte at fault, with more bytes

module _ (profile : Profile) (limits : Limits) (bytes more : List ℕ) where
  at_fault_more : (before : List Told) (out : LeftOut) (block : List ℕ) (byte : ℕ) → IsAtFault profile limits bytes before out block byte → IsAtFault profile limits (bytes ++ more) before out block byte
  at_fault_more before out block byte h = record {
    front = h.front;
    path = h.path;
    blocks = h.blocks;
    follows = h.follows;
    left_out = h.left_out;
    at = h.at;
    rest = h.rest ++ more;
    split = ap (λ (t : List ℕ). t ++ more) h.split ∙ (append_assoc h.front (block ++ byte ∷ h.rest) more ∙ ap (λ (t : List ℕ). h.front ++ t) (append_assoc block (byte ∷ h.rest) more));
  }

  fault_more : (before : List Told) (out : Option LeftOut) (fault : Option Fault) → IsFaultOf profile limits bytes before out fault → IsFaultOf profile limits (bytes ++ more) before out fault
  fault_more before None None h = h
  fault_more before None (Some f) h = h
  fault_more before (Some out) None h = h
  fault_more before (Some out) (Some f) h = (h.0, h.1, at_fault_more before out h.0 h.1 h.2, h.3)

  faults_more : (told : List Told) (found : List Found) → HaveFaults profile limits bytes told found → HaveFaults profile limits (bytes ++ more) told found
  faults_more told [] h = tt
  faults_more told (f ∷ found) h = (fault_more (told ++ told_entry f.entry) f.left_out f.fault h.0, faults_more (told ++ (told_entry f.entry ++ told_out f.left_out)) found h.1)

module _ (profile : Profile) (limits : Limits) (bytes : List ℕ) where
  -- One thing more is found.
  faults_push : (told : List Told) (found : List Found) (f : Found) → HaveFaults profile limits bytes told found → IsFaultOf profile limits bytes ((told ++ told_by found) ++ told_entry f.entry) f.left_out f.fault → HaveFaults profile limits bytes told (found ++ f ∷ [])
  faults_push told [] f h x = (subst (λ (t : List Told). IsFaultOf profile limits bytes (t ++ told_entry f.entry) f.left_out f.fault) (append-nil told) x, tt)
  faults_push told (g ∷ found) f h x =
      let here = told_entry g.entry ++ told_out g.left_out in
      (h.0, faults_push (told ++ here) found f h.1 (subst (λ (t : List Told). IsFaultOf profile limits bytes (t ++ told_entry f.entry) f.left_out f.fault) (sym (append_assoc told here (told_by found))) x))

  -- The same, of the last.
  pub faults_last : (told : List Told) (found : List Found) (f : Found) → HaveFaults profile limits bytes told (found ++ f ∷ []) → IsFaultOf profile limits bytes ((told ++ told_by found) ++ told_entry f.entry) f.left_out f.fault
  faults_last told [] f h = subst (λ (t : List Told). IsFaultOf profile limits bytes (t ++ told_entry f.entry) f.left_out f.fault) (sym (append-nil told)) h.0
  faults_last told (g ∷ found) f h =
      let here = told_entry g.entry ++ told_out g.left_out in
      subst (λ (t : List Told). IsFaultOf profile limits bytes (t ++ told_entry f.entry) f.left_out f.fault) (append_assoc told here (told_by found)) (faults_last (told ++ here) found f h.1)

  -- The end tells no fault.
  pub faults_entry : (found : List Found) (e : EntryData) → HaveFaults profile limits bytes [] found → HaveFaults profile limits bytes [] (found ++ record { entry = Some e; left_out = None; fault = None } ∷ [])
  faults_entry found e h = faults_push [] found (record { entry = Some e; left_out = None; fault = None }) h tt

-- ---- What is found

module _ (form : Profile × Limits) (s t : GoingOnRecords) (p : List ℕ) (found : List Found) (old : HasFound s form p found) (bytes : List ℕ) (small : (i : ℕ) → get_or bytes i 0 < 256) where
  bytes_more : (used : ℕ) → AllByRecursion IsByte (p ++ take used bytes)
  bytes_more used = all_both IsByte p (take used bytes) old.bytes (small_take bytes used small)

  -- Nothing more.
  pub found_more : (used : ℕ) → HasTold t (form.0) (form.1) (p ++ take used bytes) (told_by found) → HasFound t form (p ++ take used bytes) found
  found_more used h = record { told = h; closed = told_closed (form.0) (form.1) t (p ++ take used bytes) (told_by found) h; faults = faults_more (form.0) (form.1) p (take used bytes) [] found old.faults; bytes = bytes_more used }

  -- This, too.
  pub found_given : (used : ℕ) (f : Found) → HasTold t (form.0) (form.1) (p ++ take used bytes) (told_by found ++ (told_entry f.entry ++ told_out f.left_out)) → IsFaultOf (form.0) (form.1) (p ++ take used bytes) (told_by found ++ told_entry f.entry) f.left_out f.fault →
      HasFound t form (p ++ take used bytes) (found ++ f ∷ [])
  found_given used f h fault =
      let more : HasTold t (form.0) (form.1) (p ++ take used bytes) (told_by (found ++ f ∷ [])) = subst (HasTold t (form.0) (form.1) (p ++ take used bytes)) (sym (told_by_push found f)) h in
      record {
        told = more;
        closed = told_closed (form.0) (form.1) t (p ++ take used bytes) (told_by (found ++ f ∷ [])) more;
        faults = faults_push (form.0) (form.1) (p ++ take used bytes) [] found f (faults_more (form.0) (form.1) p (take used bytes) [] found old.faults) fault;
        bytes = bytes_more used;
      }

  -- Any byte may come next.
  pub next_lines : (used : ℕ) → Next AreLines (p ++ take used bytes) (get_or bytes used 0)
  next_lines used =
      let text = (p ++ take used bytes) ++ get_or bytes used 0 ∷ [] in
      record { rest = 10 ∷ []; whole = (inr (text, refl), all_both IsByte text (10 ∷ []) (all_both IsByte (p ++ take used bytes) (get_or bytes used 0 ∷ []) (bytes_more used) (small used, tt)) (omega arith, tt)) }

-- ---- A block that goes on

module _ (profile : Profile) (limits : Limits) (s : GoingOnRecords) (p : List ℕ) (told : List Told) (h : IsReading s profile limits p told) (front : List ℕ) where
  -- No part came.
  pub on_along : (block : SnapshotRecords) (meter : Meter) (used : ℕ) (what : Event EntryData) → ((e : EntryData) → what ≡ events.Given e → ⊥) → Advances (snap_stream profile) block meter h.block [] front used what →
      HasProgressed (snap_stream profile) block meter (h.block ++ take used front) []
  on_along block meter used events.NeedMore n a = a
  on_along block meter used (events.Given e) n a = absurd (n e refl)
  on_along block meter used (events.Stopped stop) n a = a.2
  on_along block meter used events.OutOfMemory n a = a.2

  -- Of the same block, read by others.
  abbrev pub same_reading : (t : GoingOnRecords) → t.left_out ≡ s.left_out → HasProgressed (snap_stream profile) t.block t.meter h.block [] → IsReading t profile limits p told
  same_reading t kept along = record {
    front = h.front;
    path = h.path;
    blocks = h.blocks;
    ended = h.ended;
    block = h.block;
    split = h.split;
    along = along;
    state = elim h.state [
      | inl f ↦ inl (record { no_nul = f.no_nul; left_out = f.left_out; kept = kept ∙ f.kept })
      | inr o ↦ inr (record { own = o.own; good = o.good; rest = o.rest; split = o.split; other = o.other; none = kept ∙ o.none })
    ];
  }

  module _ (t : GoingOnRecords) (used : ℕ) (kept : t.left_out ≡ s.left_out) (along : HasProgressed (snap_stream profile) t.block t.meter (h.block ++ take used front) []) where
    text : p ++ take used front ≡ h.front ++ (h.block ++ take used front)
    text = ap (λ (u : List ℕ). u ++ take used front) h.split ∙ append_assoc h.front h.block (take used front)

    -- Of a block that another path began.
    pub on_other : HasOther s profile limits p told h.path h.block → IsReading t profile limits (p ++ take used front) told
    on_other o = record {
      front = h.front;
      path = h.path;
      blocks = h.blocks;
      ended = h.ended;
      block = h.block ++ take used front;
      split = text;
      along = along;
      state = inr (record {
        own = o.own;
        good = o.good;
        rest = o.rest ++ take used front;
        split = ap (λ (u : List ℕ). u ++ take used front) o.split ∙ append_assoc o.own (0 ∷ o.rest) (take used front);
        other = o.other;
        none = kept ∙ o.none;
      });
    }

    -- Where no NUL had come.
    pub on_first : IsFirst s profile limits p told h.path h.block → 0 < used → (s.left_out ≡ None) ⊎ (length front ≤ 1) → used ≤ length front → IsUnsettled t profile limits (p ++ take used front) told
    on_first f some one within = record {
      front = h.front;
      path = h.path;
      blocks = h.blocks;
      ended = h.ended;
      block = h.block ++ take used front;
      split = text;
      along = along;
      left_out = f.left_out;
      kept = kept ∙ f.kept;
      byte = elim one [
        | inl z ↦ inl (sym f.kept ∙ z)
        | inr le ↦
            let size : used ≡ 1 = omega (arith, some, within, le) in
            inr (h.block, get_or front 0 0, f.no_nul, ap (λ (n : ℕ). h.block ++ take n front) size ∙ sym (taken_more h.block front 0 (omega (arith, some, within)) ∙ refl) ∙ ap (λ (u : List ℕ). u ++ get_or front 0 0 ∷ []) (append-nil h.block))
      ];
    }

  -- ---- A block that another path closes

  module _ (t : GoingOnRecords) (old : Meter) (used : ℕ) (e : EntryData) (some : 0 < used) (within : used ≤ length front) (closed : Closed profile (h.block ++ take (used - 1) front) [])
      (along : HasProgressed (snap_stream profile) t.block old (h.block ++ take used front) (e ∷ [])) (old_is : old.limits ≡ block_limits limits) (same : t.meter.limits ≡ old.limits) (offset : t.meter.offset ≡ old.record_len) (len : t.meter.record_len ≡ old.record_len)
      (kept : t.left_out ≡ s.left_out) (one : (s.left_out ≡ None) ⊎ (length front ≤ 1)) where
    abbrev q : List ℕ
    q = h.block ++ take (used - 1) front

    abbrev c : ℕ
    c = get_or front (used - 1) 0

    byte : q ++ c ∷ [] ≡ h.block ++ take used front
    byte =
        let next : used - 1 + 1 ≡ used = omega (arith, some) in
        taken_more h.block front (used - 1) (omega (arith, some, within)) ∙ ap (λ (n : ℕ). h.block ++ take n front) next

    here : HasProgressed (snap_stream profile) t.block old (q ++ c ∷ []) (e ∷ [])
    here = subst (λ (u : List ℕ). HasProgressed (snap_stream profile) t.block old u (e ∷ [])) (sym byte) along

    g : GivenParts profile t.block.begun.items t.block.present q c e
    g = given_parts profile t.block.begun.items t.block.present q c e closed here.state.at

    abbrev path : List ℕ
    path = g.x.path.items

    abbrev lines : List (List ℕ)
    lines = g.entries.0

    given_is : g.given ≡ records e.path lines
    given_is = g.entries.4 ∙ ap (λ (u : List ℕ). records e.path lines ++ u) g.entries.5 ∙ append-nil (records e.path lines)

    start : (y : List ℕ) × (records e.path lines ++ path ≡ e.path ++ 0 ∷ y)
    start = records_start e.path lines path g.entries.2.some

    starts : q ≡ e.path ++ 0 ∷ start.0
    starts = g.split ∙ ap (λ (u : List ℕ). u ++ path) given_is ∙ start.1

    unstopped : IsSnapUnstopped profile (block_limits limits) (g.given ++ path)
    unstopped = given_unstopped profile (block_limits limits) t.block old t.meter q c e g here old_is same offset len

    entry_room : length e.path < limits.max_record
    entry_room = own_room profile limits e.path start.0 (entry_path e) (subst (IsSnapUnstopped profile (block_limits limits)) (sym g.split ∙ starts) unstopped)

    no_first : IsFirst s profile limits p told h.path h.block → length front ≤ 1 → ⊥
    no_first f le =
        let zero_used : used - 1 ≡ 0 = omega (arith, some, within, le) in
        let bare : h.block ≡ e.path ++ 0 ∷ start.0 = sym (append-nil h.block) ∙ ap (λ (n : ℕ). h.block ++ take n front) (sym zero_used) ∙ starts in
        lacks_inside 0 e.path start.0 (subst (Lacks 0) bare f.no_nul)

    none_out : t.left_out ≡ None
    none_out = kept ∙ (elim h.state [
      | inr o ↦ o.none
      | inl f ↦ elim one [ inl z ↦ z | inr le ↦ absurd (no_first f le) ]
    ])

    other : (r : List ℕ) → h.path ≡ Some r → Some e.path ≡ Some r → ⊥
    other r a b = elim h.state [
      | inl f ↦ elim one [ inl z ↦ none_some r (sym z ∙ (f.kept ∙ a)) | inr le ↦ no_first f le ]
      | inr o ↦
          let own : q ≡ o.own ++ 0 ∷ (o.rest ++ take (used - 1) front) = ap (λ (u : List ℕ). u ++ take (used - 1) front) o.split ∙ append_assoc o.own (0 ∷ o.rest) (take (used - 1) front) in
          let same_path = (cut 0 o.own e.path (o.rest ++ take (used - 1) front) start.0 (path_lacks_nul o.own o.good) (path_lacks_nul e.path (entry_path e)) (sym own ∙ starts)).0 in
          o.other (a ∙ (sym b ∙ ap Some (sym same_path)))
    ]

    abbrev block : Block
    block = record { path = Some e.path; bytes = g.given }

    follows : Follows limits.max_record h.front h.path block
    follows = record {
      ended = h.ended;
      is_block = (entry_path e, entry_room, record { lines = lines; begun = []; split = given_is ∙ sym (append-nil (records e.path lines)); plain = lines_plain profile e lines g.entries.2; last = inl (refl, g.entries.2.some) });
      other = other;
    }

    given_only : IsSnapUnstopped profile (block_limits limits) g.given
    given_only = front_unstopped profile limits g.given path unstopped

    given_ended : IsRecordEnd g.given
    given_ended = subst IsRecordEnd (sym given_is) (records_end e.path [] lines (inl refl))

    pub given_before : AreToldBy profile limits (p ++ take (used - 1) front) told
    given_before = inr (record {
      front = h.front;
      path = h.path;
      blocks = h.blocks;
      block = block;
      follows = follows;
      unstopped = given_only;
      tail = path;
      split = ap (λ (u : List ℕ). u ++ take (used - 1) front) h.split ∙ (append_assoc h.front h.block (take (used - 1) front) ∙ ap (λ (u : List ℕ). h.front ++ u) g.split);
      is_open = record { no_nul = path_lacks_nul path g.good; plain = path_lacks_newline path g.good; short = omega (arith, path_room profile (block_limits limits) t.block old t.meter q c e g here old_is same offset len) };
      ended = inr given_ended;
    })

    pub given_reading : IsReading t profile limits (p ++ take used front) (told ++ inl e ∷ [])
    given_reading = record {
      front = h.front ++ g.given;
      path = Some e.path;
      blocks = more h.front h.path told block (inl e) h.blocks follows (record { whole = g.entries; unstopped = given_only }) refl refl refl;
      ended = record_end_both h.front g.given h.ended given_ended;
      block = path ++ 0 ∷ [];
      split = ap (λ (u : List ℕ). u ++ take used front) h.split ∙ (append_assoc h.front h.block (take used front) ∙ (ap (λ (u : List ℕ). h.front ++ u) (sym byte ∙ (ap (λ (u : List ℕ). u ++ c ∷ []) g.split ∙ (ap (λ (d : ℕ). (g.given ++ path) ++ d ∷ []) g.nul ∙ append_assoc g.given path (0 ∷ [])))) ∙ sym (append_assoc h.front g.given (path ++ 0 ∷ []))));
      along = begun_along profile (block_limits limits) t.block old t.meter q c e g here old_is same offset len;
      state = inr (record { own = path; good = g.good; rest = []; split = refl; other = λ z. g.other (some_inj e.path path z); none = none_out });
    }

-- ---- A stop of the whole stream alone

-- A block is no longer than the stream, whose places are numbers of 64 bits.
pub never_whole : (profile : Profile) (limits : Limits) (block : List ℕ) (b : ℕ) (stop : Stop) → IsSnapUnstopped profile (block_limits limits) block → length block < 18446744073709551615 → SnapStopOf profile (block_limits limits) (block ++ b ∷ []) stop →
    IsWholeStop stop → ⊥
never_whole profile limits block b (stops.Refused at why) u lt s w = w
never_whole profile limits block b (stops.TooLong at) u lt s w = w
never_whole profile limits block b (stops.TooMany at) u lt s w = w
never_whole profile limits block b (stops.TooMuch at) u lt s w = absurd (omega (arith, lt, (stops_here profile (block_limits limits) block b (stops.TooMuch at) u s).4))
never_whole profile limits block b (stops.Cut at) u lt s w = stops_here profile (block_limits limits) block b (stops.Cut at) u s

-- ---- What taking the byte at fault leaves, as what is found

module _ (form : Profile × Limits) (s old t : GoingOnRecords) (p : List ℕ) (found : List Found) (had : HasFound s form p found) (bytes : List ℕ) (small : (i : ℕ) → get_or bytes i 0 < 256) (some : 0 < length bytes) (max : ℕ) (stop : Stop)
    (never : IsWholeStop stop → ⊥) (kept : HasTold old (form.0) (form.1) p (told_by found)) where
  one : p ++ get_or bytes 0 0 ∷ [] ≡ p ++ take 1 bytes
  one = ap (λ (u : List ℕ). u ++ get_or bytes 0 0 ∷ []) (sym (append-nil p)) ∙ taken_more p bytes 0 some

  at_one : (told : List Told) (used : ℕ) → used ≡ 1 → HasTold t (form.0) (form.1) (p ++ get_or bytes 0 0 ∷ []) told → HasTold t (form.0) (form.1) (p ++ take used bytes) told
  at_one told used e h = subst (λ (n : ℕ). HasTold t (form.0) (form.1) (p ++ take n bytes) told) (sym e) (subst (λ (u : List ℕ). HasTold t (form.0) (form.1) u told) one h)

  at_none : (used : ℕ) → used ≡ 0 → p ++ take used bytes ≡ p
  at_none used e = ap (λ (n : ℕ). p ++ take n bytes) e ∙ append-nil p

  pub fault_found : (used : ℕ) (what : Event Found) → FaultLeaves old t (form.0) (form.1) (p ++ get_or bytes 0 0 ∷ []) (told_by found) stop used what → Leaves (going_stream form) (HasFound t form) max p found bytes used what
  fault_found used events.NeedMore h = found_more form s t p found had bytes small used (at_one (told_by found) used h.0 h.1)
  fault_found used (events.Given f) h = (
    omega (arith, h.0),
    subst (λ (n : ℕ). AreToldBy (form.0) (form.1) (p ++ take n bytes) (told_by found)) {x = 0} (sym (omega (arith, h.0))) (subst (λ (u : List ℕ). AreToldBy (form.0) (form.1) u (told_by found)) (sym (append-nil p)) had.closed),
    found_given form s t p found had bytes small used f (at_one (told_by found ++ (told_entry f.entry ++ told_out f.left_out)) used h.0 h.1.0)
        (subst (λ (n : ℕ). IsFaultOf (form.0) (form.1) (p ++ take n bytes) (told_by found ++ told_entry f.entry) f.left_out f.fault) (sym h.0)
        (subst (λ (u : List ℕ). IsFaultOf (form.0) (form.1) u (told_by found ++ told_entry f.entry) f.left_out f.fault) one h.1.1)),
  )
  fault_found used (events.Stopped other) h = absurd (never h)
  fault_found used events.OutOfMemory h = (
    omega (arith, h.0, some),
    found_more form s t p found had bytes small used (subst (λ (r : GoingOnRecords). HasTold r (form.0) (form.1) (p ++ take used bytes) (told_by found)) (sym h.1) (subst (λ (u : List ℕ). HasTold old (form.0) (form.1) u (told_by found)) (sym (at_none used h.0)) kept)),
    next_lines form s t p found had bytes small used,
    λ z. z,
  )

-- ---- Any byte may come

pub next_byte : (p : List ℕ) (b : ℕ) → AllByRecursion IsByte p → b < 256 → Next AreLines p b
next_byte p b h lt = record { rest = 10 ∷ []; whole = (inr (p ++ b ∷ [], refl), all_both IsByte (p ++ b ∷ []) (10 ∷ []) (all_both IsByte p (b ∷ []) h (lt, tt)) (omega arith, tt)) }

last_small : (p rest : List ℕ) (b : ℕ) → AllByRecursion IsByte ((p ++ b ∷ []) ++ rest) → b < 256
last_small [] rest b h = h.0
last_small (x ∷ p) rest b h = last_small p rest b h.1

pub small_next : (p : List ℕ) (b : ℕ) → Next AreLines p b → b < 256
small_next p b h = last_small p h.rest b h.whole.1
