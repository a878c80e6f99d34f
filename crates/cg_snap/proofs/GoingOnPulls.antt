-- What bytes do that are read at once, where nothing was left out that may go on.
use Rattle.std.proofs.Common.{◌≡◌, ℕ, ◌+◌, ◌-◌, ◌<◌, ◌≤◌, List, [], ◌∷◌, ◌++◌, length, take, refl, sym, ap, subst, ◌∙◌, append_assoc, arith, false, Option, Some, None, is_some, inl, inr}
use Rattle.std.specs.List.{AllByRecursion}
use Rattle.std.proofs.lemmas.Bool.{cases_lt}
use Rattle.std.proofs.lemmas.List.{append-nil, length-append, length_push}
use Rattle.cg_text.specs.Texts.{Next}
use Rattle.cg_value.specs.Entry.{EntryData}
use Rattle.cg_value.specs.declared.profile.Profile.{Profile}
use Rattle.cg_snap.specs.Begun.{IsBegun, IsRecordEnd}
use Rattle.cg_snap.specs.Course.{HasProgressed, PieceDid}
use Rattle.cg_snap.specs.GoingOn.{Told}
use Rattle.cg_snap.specs.GoingOnEntry.{BlockDid, EntryDid, IsGivenBy}
use Rattle.cg_snap.specs.GoingOnState.{AreLines, HasFound, IsReading, breaks_none, going_stream, many_of_none}
use Rattle.cg_snap.specs.Meter.{IsCounted}
use Rattle.cg_snap.specs.StreamStop.{IsStreamUnstopped}
use Rattle.cg_snap.specs.Streams.{snap_stream}
use Rattle.cg_snap.specs.declared.event.Event.{Event}
use Rattle.cg_snap.specs.declared.event.Event.TheVariants as events
use Rattle.cg_snap.specs.declared.going_on.Found.{Found}
use Rattle.cg_snap.specs.declared.going_on_records.GoingOnRecords.{GoingOnRecords}
use Rattle.cg_snap.specs.declared.limits.Limits.{Limits}
use Rattle.cg_snap.specs.declared.meter.Meter.{Meter}
use Rattle.cg_snap.specs.declared.snapshot_records.SnapshotRecords.{SnapshotRecords}
use Rattle.cg_snap.proofs.Begins.{begun_newline, begun_push, not_long}
use Rattle.cg_snap.proofs.GoingOnMoves.{record_end_both, settle_none}
use Rattle.cg_snap.proofs.GoingOnTakes.{on_other}
use Rattle.cg_snap.proofs.Steps.{all_both}
use Rattle.cg_snap.proofs.Stops.{unstopped_push}

abbrev IsByte : ℕ → Type 0
IsByte b = b < 256

pub none_left : (o : Option (List ℕ)) → is_some o ≡ false → o ≡ None
none_left None e = refl
none_left (Some path) e = absurd (cc)

-- ---- Which bytes stop nothing

next_byte : (p : List ℕ) (b : ℕ) → AllByRecursion IsByte p → b < 256 → Next AreLines p b
next_byte p b h lt = record { rest = 10 ∷ []; whole = (inr (p ++ b ∷ [], refl), all_both IsByte (p ++ b ∷ []) (10 ∷ []) (all_both IsByte p (b ∷ []) h (lt, tt)) (omega arith, tt)) }

-- The record that is begun after a byte is no more than a byte longer.
begun_byte : (p r : List ℕ) (b : ℕ) → IsBegun p r → (s : List ℕ) × IsBegun (p ++ b ∷ []) s × (length s ≤ length r + 1)
begun_byte p r b h = elim (cases_lt b 10) [
  | inl lt ↦ (r ++ b ∷ [], begun_push p r b (λ e. absurd (omega (arith, e, lt))) h, omega (arith, length_push r b))
  | inr ge ↦ elim (cases_lt 10 b) [
    | inl lt ↦ (r ++ b ∷ [], begun_push p r b (λ e. absurd (omega (arith, e, lt))) h, omega (arith, length_push r b))
    | inr le ↦ ([], begun_newline p b (omega (arith, le, ge)), omega arith)
  ]
]

abbrev Unstopped : Limits → List ℕ → Type 0
Unstopped limits = IsStreamUnstopped AreLines breaks_none many_of_none limits

-- Bytes for which a record has room, and the whole stream.
going_unstopped : (limits : Limits) (p r q : List ℕ) → Unstopped limits p → AllByRecursion IsByte p → AllByRecursion IsByte q → IsBegun p r → length q ≤ limits.max_record - length r → length q ≤ limits.max_stream - length p → Unstopped limits (p ++ q)
going_unstopped limits p r [] u a b h long far = subst (Unstopped limits) (sym (append-nil p)) u
going_unstopped limits p r (b ∷ q) u a bytes h long far =
    let s = begun_byte p r b h in
    let one : Unstopped limits (p ++ b ∷ []) = unstopped_push AreLines breaks_none many_of_none limits p b u (next_byte p b a bytes.0) (record {
      short = not_long p r b limits.max_record (length p) h (omega (arith, long));
      few = λ z. z;
      before = λ e. absurd (omega (arith, far, e));
    }) in
    subst (Unstopped limits) (append_assoc p (b ∷ []) q)
    (going_unstopped limits (p ++ b ∷ []) s.0 q one (all_both IsByte p (b ∷ []) a (bytes.0, tt)) bytes.1 s.1 (omega (arith, long, s.2)) (omega (arith, far, length_push p b)))

-- ---- What is counted of them

-- Behind whole records a block begins with a record.
begun_behind : (front block r : List ℕ) → IsRecordEnd front → IsBegun block r → IsBegun (front ++ block) r
begun_behind front block r e h = record {
  front = front ++ h.front;
  split = ap (λ (t : List ℕ). front ++ t) h.split ∙ sym (append_assoc front h.front r);
  ended = record_end_both front h.front e h.ended;
  plain = h.plain;
}

module _ (form : Profile × Limits) (s t : GoingOnRecords) (old new inner : Meter) (p q : List ℕ) (found after : List Found) (h : HasProgressed (going_stream form) s old p found) (front block : List ℕ) (text : p ++ q ≡ front ++ block) (ended : IsRecordEnd front)
    (counted : IsCounted inner block) (offset : new.offset ≡ old.offset + length q) (len : new.record_len ≡ inner.record_len) (same : new.limits ≡ old.limits) (far : length q ≤ old.limits.max_stream - old.offset) (long : length q ≤ old.limits.max_record - old.record_len)
    (state : HasFound t form (p ++ q) after) where
  q_bytes : (a b : List ℕ) → AllByRecursion IsByte (a ++ b) → AllByRecursion IsByte b
  q_bytes [] b x = x
  q_bytes (c ∷ a) b x = q_bytes a b x.1

  -- What stands after bytes that were taken at once, behind which the block is this.
  pub taken_on : HasProgressed (going_stream form) t new (p ++ q) after
  taken_on = record {
    state = state;
    counted = record {
      offset = omega (arith, offset, h.counted.offset, length-append p q);
      within = omega (arith, far, h.counted.within, h.counted.offset, length-append p q, ap (λ (l : Limits). l.max_stream) same);
      begun = counted.begun;
      begins = subst (λ (u : List ℕ). IsBegun u counted.begun) (sym text) (begun_behind front block counted.begun ended counted.begins);
      length_is = len ∙ counted.length_is;
    };
    unstopped = subst (λ (l : Limits). Unstopped l (p ++ q)) (sym same)
        (going_unstopped old.limits p h.counted.begun q h.unstopped h.state.bytes (q_bytes p q state.bytes) h.counted.begins (omega (arith, long, h.counted.length_is)) (omega (arith, far, h.counted.offset)));
    closed = state.closed;
  }

-- ---- What the block makes of them

module _ (profile : Profile) (block : SnapshotRecords) (meter : Meter) (before front : List ℕ) (used : ℕ) where
  -- No part came.
  pub piece_along : (what : Event EntryData) → ((e : EntryData) → what ≡ events.Given e → ⊥) → PieceDid (snap_stream profile) block meter before [] front used what → HasProgressed (snap_stream profile) block meter (before ++ take used front) []
  piece_along events.NeedMore n a = a.1
  piece_along (events.Given e) n a = absurd (n e refl)
  piece_along (events.Stopped stop) n a = a.2
  piece_along events.OutOfMemory n a = a.2

module _ (profile : Profile) (limits : Limits) (s : GoingOnRecords) (p : List ℕ) (told : List Told) (h : IsReading s profile limits p told) (front : List ℕ) (t : GoingOnRecords) (used : ℕ) (none : s.left_out ≡ None) (kept : t.left_out ≡ s.left_out)
    (along : HasProgressed (snap_stream profile) t.block t.meter (h.block ++ take used front) []) where
  pub ran_on : IsReading t profile limits (p ++ take used front) told
  ran_on = elim h.state [
    | inr o ↦ on_other profile limits s p told h front t used kept along o
    | inl f ↦ settle_none profile limits t (p ++ take used front) told (record {
      front = h.front;
      path = h.path;
      blocks = h.blocks;
      ended = h.ended;
      block = h.block ++ take used front;
      split = ap (λ (u : List ℕ). u ++ take used front) h.split ∙ append_assoc h.front h.block (take used front);
      along = along;
      left_out = f.left_out;
      kept = kept ∙ f.kept;
      byte = inl (sym f.kept ∙ none);
    }) (kept ∙ none) t.block.present refl
  ]

-- ---- What is answered of an entry alone

module _ (form : Profile × Limits) (s : GoingOnRecords) (m : Meter) (p : List ℕ) (found : List Found) (piece : List ℕ) (used : ℕ) where
  -- Nothing was given.
  pub did_none : (what : Event EntryData) → ((e : EntryData) → what ≡ events.Given e → ⊥) → HasProgressed (going_stream form) s m (p ++ take used piece) found → EntryDid form s m p found piece used what
  did_none events.NeedMore n h = h
  did_none (events.Given e) n h = absurd (n e refl)
  did_none (events.Stopped stop) n h = h
  did_none events.OutOfMemory n h = h

  pub took_none : (what : Event EntryData) → ((e : EntryData) → what ≡ events.Given e → ⊥) → EntryDid form s m p found piece used what → HasProgressed (going_stream form) s m (p ++ take used piece) found
  took_none events.NeedMore n h = h
  took_none (events.Given e) n h = absurd (n e refl)
  took_none (events.Stopped stop) n h = h
  took_none events.OutOfMemory n h = h

pub block_none : (profile : Profile) (s : GoingOnRecords) (bytes : List ℕ) (what : Event EntryData) → ((e : EntryData) → what ≡ events.Given e → ⊥) → BlockDid profile s bytes what
block_none profile s bytes events.NeedMore n = tt
block_none profile s bytes (events.Given e) n = absurd (n e refl)
block_none profile s bytes (events.Stopped stop) n = tt
block_none profile s bytes events.OutOfMemory n = tt

pub some_none : (used : ℕ) (what : Event EntryData) → ((e : EntryData) → what ≡ events.Given e → ⊥) → IsGivenBy used what
some_none used events.NeedMore n = tt
some_none used (events.Given e) n = absurd (n e refl)
some_none used (events.Stopped stop) n = tt
some_none used events.OutOfMemory n = tt
