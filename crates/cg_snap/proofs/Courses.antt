-- What a byte and a run of bytes do, whatever the records are of.
use Rattle.std.proofs.Common.{◌≡◌, ℕ, ◌+◌, ◌<◌, ◌≤◌, ◌-◌, List, [], ◌∷◌, ◌++◌, length, take, drop, get_or, refl, sym, ap, subst, ◌∙◌, append_assoc, arith, Bool, true, false, Some, inl, inr}
use Rattle.std.proofs.lemmas.List.{append-nil, drop-take, get_or-drop, get_or-take, length-append, length-drop, length-take, length-take-le, take_more, take-take, take-append-drop}
use Rattle.cg_text.specs.Texts.{Lacks, Next, Viable}
use Rattle.cg_snap.specs.Course.{Advances, AreFew, AreOfRecord, FullIs, GoesForward, HoldsBack, HasProgressed, IsMovedBy, Leaves, PieceDid, RefusedBy, Stream}
use Rattle.cg_snap.specs.Meter.{IsCounted, LimitIs}
use Rattle.cg_snap.specs.Stop.{place_of}
use Rattle.cg_snap.specs.StreamStop.{IsFree, IsStreamUnstopped, StreamStopOf}
use Rattle.cg_snap.specs.declared.event.Event.{Event}
use Rattle.cg_snap.specs.declared.event.Event.TheVariants as events
use Rattle.cg_snap.specs.declared.limits.Limits.{Limits}
use Rattle.cg_snap.specs.declared.meter.Meter.{Meter}
use Rattle.cg_snap.specs.declared.stop.Stop.{Stop}
use Rattle.cg_snap.specs.declared.stop.Stop.TheVariants as stops
use Rattle.cg_snap.specs.declared.stop.Why.{Why}
use Rattle.cg_snap.proofs.Begins.{counted_most, is_long, not_long}
use Rattle.cg_snap.proofs.Stops.{stop_long, stop_longer, stop_many, stop_much, stop_place, stop_refused, unstopped_line, unstopped_push, unstopped_run}

-- ---- A piece, byte by byte

pub take_two : (p piece : List ℕ) (at used : ℕ) → (p ++ take at piece) ++ take used (drop at piece) ≡ p ++ take (at + used) piece
take_two p piece at used =
    let t : take at piece ++ take used (drop at piece) ≡ take (at + used) piece = rw (← drop-take at used piece, ← take-take at (at + used) piece (omega arith)) (take-append-drop at (take (at + used) piece)) in
    append_assoc p (take at piece) (take used (drop at piece)) ∙ ap (λ (t : List ℕ). p ++ t) t

-- After so many bytes of a piece, and then some of the rest.
pub text_on : (p piece rest : List ℕ) (at n : ℕ) → rest ≡ drop at piece → (p ++ take at piece) ++ take n rest ≡ p ++ take (at + n) piece
text_on p piece rest at n e = ap (λ (r : List ℕ). (p ++ take at piece) ++ take n r) e ∙ take_two p piece at n

-- And one byte more.
pub taken_more : (p piece : List ℕ) (used : ℕ) → used < length piece → (p ++ take used piece) ++ get_or piece used 0 ∷ [] ≡ p ++ take (used + 1) piece
taken_more p piece used lt = append_assoc p (take used piece) (get_or piece used 0 ∷ []) ∙ ap (λ (t : List ℕ). p ++ t) (sym (take_more piece used 0 lt))

whole_piece : (p piece : List ℕ) (used : ℕ) → used < length piece → (p ++ take (used + 1) piece) ++ drop (used + 1) piece ≡ p ++ piece
whole_piece p piece used lt = append_assoc p (take (used + 1) piece) (drop (used + 1) piece) ∙ ap (λ (t : List ℕ). p ++ t) (take-append-drop (used + 1) piece)

module _ (L : List ℕ → Type 0) (Breaks : List ℕ → ℕ → Why → Type 0) (Many : ℕ → List ℕ → ℕ → Type 0) where
  -- ---- Limits

  few_full : (max : ℕ) (p : List ℕ) (b : ℕ) (full : Bool) → full ≡ false → FullIs L Many max p b full → Many max (p ++ b ∷ []) (length p) → ⊥
  few_full max p b true e h = absurd (cc)
  few_full max p b false e h = h

  many_full : (max : ℕ) (p : List ℕ) (b : ℕ) (full : Bool) → full ≡ true → FullIs L Many max p b full → Next L p b → Many max (p ++ b ∷ []) (length p)
  many_full max p b true e h = h
  many_full max p b false e h = absurd (cc)

  -- A limit is passed, and some text goes on with the byte.
  pub limit_stops : (m : Meter) (p : List ℕ) (b : ℕ) (full : Bool) (stop : Stop) → IsCounted m p → IsStreamUnstopped L Breaks Many m.limits p → LimitIs m full (Some stop) → FullIs L Many m.limits.max_lines p b full → Next L p b →
      StreamStopOf L Breaks Many m.limits (p ++ b ∷ []) stop
  limit_stops m p b full (stops.TooLong at) h u l f v = stop_long L Breaks Many m.limits p b at (l.0 ∙ h.offset) u (is_long p h.begun b m.limits.max_record (length p) h.begins (omega (arith, l.1, h.length_is))) v
  limit_stops m p b full (stops.TooMany at) h u l f v =
      stop_many L Breaks Many m.limits p b at (l.0 ∙ h.offset) u (not_long p h.begun b m.limits.max_record (length p) h.begins (omega (arith, l.1, h.length_is))) (many_full m.limits.max_lines p b full l.2 f v) v
  limit_stops m p b full (stops.TooMuch at) h u l f v =
      stop_much L Breaks Many m.limits p b at (l.0 ∙ h.offset) u (not_long p h.begun b m.limits.max_record (length p) h.begins (omega (arith, l.1, h.length_is))) (few_full m.limits.max_lines p b full l.2 f)
      (omega (arith, l.3, h.offset, h.within)) v
  limit_stops m p b full (stops.Refused at why) h u l f v = absurd l
  limit_stops m p b full (stops.Cut at) h u l f v = absurd l

  -- The grammar refuses the byte.
  pub refused_stops : (m : Meter) (p : List ℕ) (b at : ℕ) (why : Why) → IsCounted m p →
      IsStreamUnstopped L Breaks Many m.limits p → at ≡ m.offset → RefusedBy L Breaks p b (Some why) →
      StreamStopOf L Breaks Many m.limits (p ++ b ∷ []) (stops.Refused at why)
  refused_stops m p b at why h u e r = stop_refused L Breaks Many m.limits p b at why (e ∙ h.offset) u r.0 r.1

  -- ---- A piece

  pub stop_in_piece : (limits : Limits) (p piece : List ℕ) (used : ℕ) (stop : Stop) → used < length piece →
      StreamStopOf L Breaks Many limits ((p ++ take used piece) ++ get_or piece used 0 ∷ []) stop →
      StreamStopOf L Breaks Many limits (p ++ piece) stop
  stop_in_piece limits p piece used stop lt s =
      subst (λ (t : List ℕ). StreamStopOf L Breaks Many limits t stop) (ap (λ (t : List ℕ). t ++ drop (used + 1) piece) (taken_more p piece used lt) ∙ whole_piece p piece used lt)
      (stop_longer L Breaks Many limits ((p ++ take used piece) ++ get_or piece used 0 ∷ []) (drop (used + 1) piece) stop s)

  pub unstopped_in_piece : (limits : Limits) (p piece : List ℕ) (used : ℕ) → used < length piece →
      IsStreamUnstopped L Breaks Many limits ((p ++ take used piece) ++ get_or piece used 0 ∷ []) →
      IsStreamUnstopped L Breaks Many limits (p ++ take (used + 1) piece)
  unstopped_in_piece limits p piece used lt u = subst (IsStreamUnstopped L Breaks Many limits) (taken_more p piece used lt) u

  pub stop_after : (limits : Limits) (p piece : List ℕ) (used : ℕ) (stop : Stop) → used < length piece →
      StreamStopOf L Breaks Many limits ((p ++ take used piece) ++ get_or piece used 0 ∷ []) stop →
      IsStreamUnstopped L Breaks Many limits (p ++ take used piece) →
      place_of stop ≡ length p + used
  stop_after limits p piece used stop lt s u =
      let at : place_of stop ≡ length (p ++ take used piece) = stop_place L Breaks Many limits (p ++ take used piece) (get_or piece used 0) stop u s in
      omega (arith, at, lt, length-append p (take used piece), length-take used piece)

-- ---- What stands after bytes

module _ {S Part : Type 0} (stream : Stream S Part) (closed : (s : S) (p : List ℕ) (es : List Part) → stream.at s p es → stream.closes p es)
    (goes_on : (s : S) (p : List ℕ) (es : List Part) → stream.at s p es → Viable stream.language p) where
  abbrev Progressed : S → Meter → List ℕ → List Part → Type 0
  Progressed = HasProgressed stream

  -- Before any byte.
  pub fresh : (s : S) (m : Meter) → stream.at s [] [] → IsCounted m [] → Progressed s m [] []
  fresh s m a n = record { state = a; counted = n; unstopped = λ k within. absurd (omega (arith, within)); closed = closed s [] [] a }

  -- After a run.
  pub ran : (s : S) (old new : Meter) (p q : List ℕ) (es : List Part) → stream.at s (p ++ q) es → IsCounted old p → IsCounted new (p ++ q) → new.limits ≡ old.limits → IsStreamUnstopped stream.language stream.breaks stream.many old.limits p → Lacks 10 q → AreFew (stream.many old.limits.max_lines) p q →
      length q ≤ old.limits.max_record - old.record_len → length q ≤ old.limits.max_stream - old.offset → Progressed s new (p ++ q) es
  ran s old new p [] es a h n li u plain few long far = record { state = a; counted = n; unstopped = rw (li, append-nil p) u; closed = closed s (p ++ []) es a }
  ran s old new p (b ∷ q) es a h n li u plain few long far = record {
    state = a;
    counted = n;
    unstopped = rw li (unstopped_run stream.language stream.breaks stream.many old.limits p h.begun (b ∷ q) u (goes_on s (p ++ b ∷ q) es a) h.begins plain few (omega (arith, long, h.length_is)) (omega (arith, far, h.offset)));
    closed = closed s (p ++ b ∷ q) es a;
  }

  -- After what comes of a line, with its newline.
  pub ran_line : (s : S) (old new : Meter) (p q line : List ℕ) (es : List Part) → q ≡ line ++ 10 ∷ [] → stream.at s (p ++ q) es → IsCounted old p → IsCounted new (p ++ q) → new.limits ≡ old.limits → IsStreamUnstopped stream.language stream.breaks stream.many old.limits p →
      Lacks 10 line → AreFew (stream.many old.limits.max_lines) p q → length q ≤ old.limits.max_record - old.record_len → length q ≤ old.limits.max_stream - old.offset → Progressed s new (p ++ q) es
  ran_line s old new p q line es e a h n li u plain few long far =
      let size : length q ≡ length line + 1 = ap length e ∙ length-append line (10 ∷ []) in
      record {
        state = a;
        counted = n;
        unstopped = rw (li, e) (unstopped_line stream.language stream.breaks stream.many old.limits p h.begun line u (rw e at (goes_on s (p ++ q) es a)) h.begins plain (rw e at few) (omega (arith, long, size, h.length_is)) (omega (arith, far, size, h.offset)));
        closed = closed s (p ++ q) es a;
      }

  -- After bytes of a record.
  ran_part : (s : S) (old new : Meter) (p q : List ℕ) (es : List Part) → AreOfRecord q → stream.at s (p ++ q) es → IsCounted old p → IsCounted new (p ++ q) → new.limits ≡ old.limits →
      IsStreamUnstopped stream.language stream.breaks stream.many old.limits p → AreFew (stream.many old.limits.max_lines) p q →
      length q ≤ old.limits.max_record - old.record_len → length q ≤ old.limits.max_stream - old.offset → Progressed s new (p ++ q) es
  ran_part s old new p q es (inl plain) a h n li u few long far = ran s old new p q es a h n li u plain few long far
  ran_part s old new p q es (inr l) a h n li u few long far = ran_line s old new p q l.0 es l.1 a h n li u l.2 few long far

  -- Why the next byte isn't taken is the stop of the stream, where its record has room for the byte.
  held_stops : (m : Meter) (p : List ℕ) (b : ℕ) (stop : Stop) → IsCounted m p → IsStreamUnstopped stream.language stream.breaks stream.many m.limits p → m.record_len < m.limits.max_record →
      HoldsBack stream m.limits.max_lines p b stop → StreamStopOf stream.language stream.breaks stream.many m.limits (p ++ b ∷ []) stop
  held_stops m p b (stops.Refused at why) h u short r = stop_refused stream.language stream.breaks stream.many m.limits p b at why r.0 u r.1.0 r.1.1
  held_stops m p b (stops.TooMany at) h u short r =
      stop_many stream.language stream.breaks stream.many m.limits p b at r.0 u (not_long p h.begun b m.limits.max_record (length p) h.begins (omega (arith, short, h.length_is))) r.2 r.1
  held_stops m p b (stops.TooLong at) h u short r = absurd r
  held_stops m p b (stops.TooMuch at) h u short r = absurd r
  held_stops m p b (stops.Cut at) h u short r = absurd r

  -- Bytes were taken from the front of some for which there is room, and counted.
  module _ (s : S) (old new : Meter) (p front : List ℕ) (es : List Part) (used : ℕ) (within : used ≤ length front) (h : IsCounted old p) (n : IsCounted new (p ++ take used front))
      (li : new.limits ≡ old.limits) (u : IsStreamUnstopped stream.language stream.breaks stream.many old.limits p) (few : AreFew (stream.many old.limits.max_lines) p (take used front)) (part : AreOfRecord (take used front))
      (long : length front ≤ old.limits.max_record - old.record_len) (far : length front ≤ old.limits.max_stream - old.offset) where
    size : length (take used front) ≡ used
    size = length-take-le used front within

    taken_along : (fs : List Part) → stream.at s (p ++ take used front) fs → Progressed s new (p ++ take used front) fs
    taken_along fs a = ran_part s old new p (take used front) fs part a h n li u few (omega (arith, size, within, long)) (omega (arith, size, within, far))

    room_left : used < length front → new.record_len < new.limits.max_record
    room_left lt = omega (arith, lt, long, size, counted_most old new p (take used front) h n part, ap (λ (l : Limits). l.max_record) li)

    free_left : used < length front → (stream.many old.limits.max_lines ((p ++ take used front) ++ get_or front used 0 ∷ []) (length (p ++ take used front)) → ⊥) →
        IsFree stream.language stream.breaks stream.many new.limits (p ++ take used front) (get_or front used 0)
    free_left lt none = record {
      short = not_long (p ++ take used front) n.begun (get_or front used 0) new.limits.max_record (length (p ++ take used front)) n.begins (omega (arith, room_left lt, n.length_is));
      few = rw li none;
      before = λ e. absurd (omega (arith, lt, far, size, e, h.offset, h.within, length-append p (take used front), ap (λ (l : Limits). l.max_stream) li));
    }

    pub advanced : (what : Event Part) → Leaves stream (stream.at s) old.limits.max_lines p es front used what → Advances stream s new p es front used what
    advanced events.NeedMore l = taken_along es l
    advanced (events.Given e) l = (l.0, l.1, taken_along (es ++ e ∷ []) l.2)
    advanced (events.Stopped stop) l =
        let along = taken_along es l.1 in
        (l.0, held_stops new (p ++ take used front) (get_or front used 0) stop n along.unstopped (room_left l.0) (rw (sym li) at l.2), along)
    advanced events.OutOfMemory l =
        let along = taken_along es l.1 in
        (l.0, unstopped_push stream.language stream.breaks stream.many new.limits (p ++ take used front) (get_or front used 0) along.unstopped l.2 (free_left l.0 l.3), along)

module _ {S Part : Type 0} (stream : Stream S Part) where
  -- What stands after a text stands after it in other words.
  pub along_of : (s : S) (m : Meter) (t u : List ℕ) (es : List Part) → t ≡ u → HasProgressed stream s m t es → HasProgressed stream s m u es
  along_of s m t u es e h = subst (λ (w : List ℕ). HasProgressed stream s m w es) e h

  -- What the front of a piece did, the piece did.
  pub front_advances : (s : S) (m : Meter) (p piece front : List ℕ) (es : List Part) (count used : ℕ) (what : Event Part) → front ≡ take count piece → used ≤ length front →
      Advances stream s m p es front used what → Advances stream s m p es piece used what
  front_advances s m p piece front es count used what e within h =
      let short : length front ≤ length piece = omega (arith, ap length e, length-take count piece) in
      let inside : used ≤ count = omega (arith, within, ap length e, length-take count piece) in
      let same : (k : ℕ) → k ≤ used → take k front ≡ take k piece = λ k le. ap (λ (t : List ℕ). take k t) e ∙ take-take k count piece (omega (arith, le, inside)) in
      let byte : used < length front → get_or front used 0 ≡ get_or piece used 0 = λ lt.
      ap (λ (t : List ℕ). get_or t used 0) e ∙ get_or-take count piece used 0 (omega (arith, lt, ap length e, length-take count piece)) in
      by what h short same byte
    where
      by : (what : Event Part) → Advances stream s m p es front used what → length front ≤ length piece → ((k : ℕ) → k ≤ used → take k front ≡ take k piece) → (used < length front → get_or front used 0 ≡ get_or piece used 0) →
          Advances stream s m p es piece used what
      by events.NeedMore h short same byte = rw (sym (same used (omega arith))) h
      by (events.Given e) h short same byte = (h.0, rw (sym (same (used - 1) (omega arith))) h.1, rw (sym (same used (omega arith))) h.2)
      by (events.Stopped stop) h short same byte =
          (omega (arith, h.0, short), rw (sym (same used (omega arith)), sym (byte h.0)) h.1, rw (sym (same used (omega arith))) h.2)
      by events.OutOfMemory h short same byte =
          (omega (arith, h.0, short), rw (sym (same used (omega arith)), sym (byte h.0)) h.1, rw (sym (same used (omega arith))) h.2)

  -- What the rest of a piece did, the piece did, where that isn't nothing.
  module _ (s : S) (m : Meter) (p piece rest : List ℕ) (es : List Part) (at used : ℕ) (back : rest ≡ drop at piece) where
    rest_byte : get_or rest used 0 ≡ get_or piece (at + used) 0
    rest_byte = ap (λ (t : List ℕ). get_or t used 0) back ∙ get_or-drop at piece used 0

    pub rest_along : (fs : List Part) → HasProgressed stream s m ((p ++ take at piece) ++ take used rest) fs → HasProgressed stream s m (p ++ take (at + used) piece) fs
    rest_along fs h = along_of s m ((p ++ take at piece) ++ take used rest) (p ++ take (at + used) piece) fs (text_on p piece rest at used back) h

    rest_within : used < length rest → at + used < length piece
    rest_within lt = omega (arith, lt, ap length back, length-drop at piece)

    rest_text : ((p ++ take at piece) ++ take used rest) ++ get_or rest used 0 ∷ [] ≡ (p ++ take (at + used) piece) ++ get_or piece (at + used) 0 ∷ []
    rest_text = rw (rest_byte, text_on p piece rest at used back) refl

    rest_given : (e : Part) → Advances stream s m (p ++ take at piece) es rest used (events.Given e) → PieceDid stream s m p es piece (at + used) (events.Given e)
    rest_given e h =
        let fewer : at + (used - 1) ≡ at + used - 1 = omega (arith, h.0) in
        (omega (arith, h.0), subst (λ (t : List ℕ). stream.closes t es) (text_on p piece rest at (used - 1) back ∙ ap (λ (k : ℕ). p ++ take k piece) fewer) h.1, rest_along (es ++ e ∷ []) h.2)

    rest_stopped : (stop : Stop) → Advances stream s m (p ++ take at piece) es rest used (events.Stopped stop) → PieceDid stream s m p es piece (at + used) (events.Stopped stop)
    rest_stopped stop h =
        let lt = rest_within h.0 in
        let along = rest_along es h.2 in
        let stops = subst (λ (t : List ℕ). StreamStopOf stream.language stream.breaks stream.many m.limits t stop) rest_text h.1 in (
          lt,
          stop_in_piece stream.language stream.breaks stream.many m.limits p piece (at + used) stop lt stops,
          along,
          stop_after stream.language stream.breaks stream.many m.limits p piece (at + used) stop lt stops along.unstopped,
        )

    rest_starved : Advances stream s m (p ++ take at piece) es rest used events.OutOfMemory → PieceDid stream s m p es piece (at + used) events.OutOfMemory
    rest_starved h =
        let lt = rest_within h.0 in
        (lt, unstopped_in_piece stream.language stream.breaks stream.many m.limits p piece (at + used) lt (subst (IsStreamUnstopped stream.language stream.breaks stream.many m.limits) rest_text h.1), rest_along es h.2)

    pub rest_did : (what : Event Part) → (what ≡ events.NeedMore → ⊥) → Advances stream s m (p ++ take at piece) es rest used what → PieceDid stream s m p es piece (at + used) what
    rest_did events.NeedMore n h = absurd (n refl)
    rest_did (events.Given e) n h = rest_given e h
    rest_did (events.Stopped stop) n h = rest_stopped stop h
    rest_did events.OutOfMemory n h = rest_starved h

  -- What a piece's rest did to its end, the piece did.
  module _ (s : S) (m : Meter) (p piece rest : List ℕ) (es : List Part) (at used : ℕ) (back : rest ≡ drop at piece) (inside : at ≤ length piece) where
    whole_rest : (p ++ take at piece) ++ rest ≡ p ++ piece
    whole_rest = append_assoc p (take at piece) rest ∙ ap (λ (t : List ℕ). p ++ t) (ap (λ (r : List ℕ). take at piece ++ r) back ∙ take-append-drop at piece)

    pub rest_piece : (what : Event Part) → PieceDid stream s m (p ++ take at piece) es rest used what → PieceDid stream s m p es piece (at + used) what
    rest_piece events.NeedMore h = (omega (arith, h.0, inside, ap length back, length-drop at piece), rest_along s m p piece rest es at used back es h.1)
    rest_piece (events.Given e) h = rest_given s m p piece rest es at used back e h
    rest_piece (events.Stopped stop) h = (
      rest_within s m p piece rest es at used back h.0,
      subst (λ (t : List ℕ). StreamStopOf stream.language stream.breaks stream.many m.limits t stop) whole_rest h.1,
      rest_along s m p piece rest es at used back es h.2,
      omega (arith, h.3, inside, length-append p (take at piece), length-take-le at piece inside),
    )
    rest_piece events.OutOfMemory h =
        let more : at + (used + 1) ≡ at + used + 1 = omega arith in (
          rest_within s m p piece rest es at used back h.0,
          subst (IsStreamUnstopped stream.language stream.breaks stream.many m.limits) (text_on p piece rest at (used + 1) back ∙ ap (λ (n : ℕ). p ++ take n piece) more) h.1,
          rest_along s m p piece rest es at used back es h.2,
        )

pub moved_rest : {Part : Type 0} → (whole rest at used : ℕ) (what : Event Part) → at + rest ≡ whole → IsMovedBy rest used what → IsMovedBy whole (at + used) what
moved_rest whole rest at used events.NeedMore e h = omega (arith, e, h)
moved_rest whole rest at used (events.Given x) e h = omega (arith, h)
moved_rest whole rest at used (events.Stopped stop) e h = tt
moved_rest whole rest at used events.OutOfMemory e h = tt

-- Where something came, as long as the piece is.
pub moved_by : {Part : Type 0} → (whole rest at used : ℕ) (what : Event Part) → (what ≡ events.NeedMore → ⊥) → GoesForward rest used what → IsMovedBy whole (at + used) what
moved_by whole rest at used events.NeedMore n h = absurd (n refl)
moved_by whole rest at used (events.Given e) n h = omega (arith, h)
moved_by whole rest at used (events.Stopped stop) n h = tt
moved_by whole rest at used events.OutOfMemory n h = tt

-- ---- What bytes leave

module _ {S Part : Type 0} (stream : Stream S Part) where
  -- In other words.
  pub leaves_as : (A B : List ℕ → List Part → Type 0) → ((q : List ℕ) (fs : List Part) → A q fs → B q fs) → (max : ℕ) (p : List ℕ) (es : List Part) (bytes : List ℕ) (used : ℕ) (what : Event Part) →
      Leaves stream A max p es bytes used what → Leaves stream B max p es bytes used what
  leaves_as A B f max p es bytes used events.NeedMore h = f (p ++ take used bytes) es h
  leaves_as A B f max p es bytes used (events.Given e) h = (h.0, h.1, f (p ++ take used bytes) (es ++ e ∷ []) h.2)
  leaves_as A B f max p es bytes used (events.Stopped stop) h = (h.0, f (p ++ take used bytes) es h.1, h.2)
  leaves_as A B f max p es bytes used events.OutOfMemory h = (h.0, f (p ++ take used bytes) es h.1, h.2, h.3)
