-- Streams that come in pieces: what a decoder took of them, and how they end.
use Rattle.std.specs.Prelude.{option_to_list}
use Rattle.std.proofs.Common.{◌≡◌, ℕ, ◌+◌, ◌-◌, ◌<◌, List, [], ◌∷◌, ◌++◌, length, take, drop, get_or, refl, sym, ap, subst, ◌∙◌, append_assoc, arith, inl, Option, None, Ok, Err}
use Rattle.std.proofs.lemmas.Grind.{flat_map-append}
use Rattle.std.proofs.lemmas.List.{flat_map_more, length-append, length-drop, length-take, take-append-drop, take-append-le, take_all, take_more}
use Rattle.std.specs.Borrow.{Bor}
use Rattle.cg_value.specs.Entry.{EntryData, ItemData}
use Rattle.cg_value.specs.declared.profile.Profile.{Profile}
use Rattle.cg_snap.specs.Course.{PieceDid, Stream}
use Rattle.cg_snap.specs.Decode.{HasTaken, HasTakenPlan, IsDecoded, IsPlanDecoded, IsPlanFault, IsSnapFault, IsStreamFault}
use Rattle.cg_snap.specs.Decoder.{FinishIs, SnapshotDecoder, profile_of}
use Rattle.cg_snap.specs.Pieces.{EndsStream, joined}
use Rattle.cg_snap.specs.Plan.{Plan, PlanText}
use Rattle.cg_snap.specs.PlanDecoder.{PlanDecoder, PlanFinishIs, plan_profile_of}
use Rattle.cg_snap.specs.PlanStop.{IsPlanUnstopped}
use Rattle.cg_snap.specs.Pulled.{HasPulled, StandsFor, WhatCame}
use Rattle.cg_snap.specs.Snap.{Snap, SnapText}
use Rattle.cg_snap.specs.SnapStop.{IsSnapUnstopped}
use Rattle.cg_snap.specs.StreamStop.{IsStreamUnstopped, StreamStopOf}
use Rattle.cg_snap.specs.Streams.{plan_stream, snap_stream}
use Rattle.cg_snap.specs.declared.decode.StreamFault.{StreamFault}
use Rattle.cg_snap.specs.declared.decode.StreamFault.TheVariants.{OutOfMemory, Stopped}
use Rattle.cg_snap.specs.declared.decoder.Decoder.{Decoder}
use Rattle.cg_snap.specs.declared.event.Event.{Event}
use Rattle.cg_snap.specs.declared.event.Event.TheVariants as events
use Rattle.cg_snap.specs.declared.limits.Limits.{Limits}
use Rattle.cg_snap.specs.declared.stop.Stop.{Stop}
use Rattle.cg_snap.specs.declared.stop.Stop.TheVariants as stops
use Rattle.cg_snap.proofs.Courses.{text_on}
use Rattle.cg_snap.proofs.Stops.{stop_longer}

-- ---- Pieces

pub left : (bytes rest : List ℕ) (at : ℕ) → rest ≡ drop at bytes → length rest ≡ length bytes - at
left bytes rest at e = ap length e ∙ length-drop at bytes

pub joined_more : (pieces : List (Bor (List ℕ))) (i : ℕ) (d : Bor (List ℕ)) → i < length pieces → joined (take i pieces) ++ (get_or pieces i d).now ≡ joined (take (i + 1) pieces)
joined_more pieces i d lt = flat_map_more (λ piece. piece.now) [] (take i pieces) (get_or pieces i d) ∙ ap (λ (q : List (Bor (List ℕ))). joined q) (sym (take_more pieces i d lt))

-- A piece and what follows it.
joined_on : (pieces : List (Bor (List ℕ))) (i : ℕ) (d : Bor (List ℕ)) → i < length pieces → (joined (take i pieces) ++ (get_or pieces i d).now) ++ joined (drop (i + 1) pieces) ≡ joined pieces
joined_on pieces i d lt =
    ap (λ (t : List ℕ). t ++ joined (drop (i + 1) pieces)) (joined_more pieces i d lt)
    ∙ sym (flat_map-append (λ piece. piece.now) (take (i + 1) pieces) (drop (i + 1) pieces))
    ∙ ap (λ (q : List (Bor (List ℕ))). joined q) (take-append-drop (i + 1) pieces)

-- The front of a piece, and what follows it.
front_on : (p piece more : List ℕ) (m : ℕ) → (p ++ piece) ++ more ≡ (p ++ take m piece) ++ (drop m piece ++ more)
front_on p piece more m =
    let back : take m piece ++ (drop m piece ++ more) ≡ piece ++ more = sym (append_assoc (take m piece) (drop m piece) more) ∙ ap (λ (t : List ℕ). t ++ more) (take-append-drop m piece) in
    append_assoc p piece more ∙ ap (λ (t : List ℕ). p ++ t) (sym back) ∙ sym (append_assoc p (take m piece) (drop m piece ++ more))

rest_on : (p piece rest : List ℕ) (at : ℕ) → rest ≡ drop at piece → (p ++ take at piece) ++ rest ≡ p ++ piece
rest_on p piece rest at e = append_assoc p (take at piece) rest ∙ ap (λ (t : List ℕ). p ++ t) (ap (λ (t : List ℕ). take at piece ++ t) e ∙ take-append-drop at piece)

abbrev Unstopped : {R Part : Type 0} → Stream R Part → Limits → List ℕ → Type 0
Unstopped stream limits t = IsStreamUnstopped stream.language stream.breaks stream.many limits t

abbrev StopsSo : {R Part : Type 0} → Stream R Part → Limits → List ℕ → Stop → Type 0
StopsSo stream limits t stop = StreamStopOf stream.language stream.breaks stream.many limits t stop

abbrev Faults : {R Part : Type 0} → Stream R Part → Limits → List ℕ → StreamFault → Type 0
Faults stream limits bytes fault = IsStreamFault stream.language stream.breaks stream.many limits bytes fault

module _ {R Part : Type 0} (stream : Stream R Part) (limits : Limits) where
  stream_stop : (bytes : List ℕ) (stop : Stop) → StopsSo stream limits bytes stop → Faults stream limits bytes (Stopped stop)
  stream_stop bytes (stops.Refused at why) h = h
  stream_stop bytes (stops.TooLong at) h = h
  stream_stop bytes (stops.TooMany at) h = h
  stream_stop bytes (stops.TooMuch at) h = h
  stream_stop bytes (stops.Cut at) h = absurd h.stops

  -- What follows a stop doesn't matter.
  stopped_in : (t more : List ℕ) (stop : Stop) → StopsSo stream limits t stop → Faults stream limits (t ++ more) (Stopped stop)
  stopped_in t more stop h = stream_stop (t ++ more) stop (stop_longer stream.language stream.breaks stream.many limits t more stop h)

  -- Nor what follows bytes with which memory was refused.
  starved_in : (p piece more : List ℕ) (m : ℕ) → 0 < m → 0 < length piece → Unstopped stream limits (p ++ take m piece) → Faults stream limits ((p ++ piece) ++ more) OutOfMemory
  starved_in p piece more m some long h =
      let t = p ++ take m piece in
      let whole = front_on p piece more m in
      let size : length ((p ++ piece) ++ more) ≡ length t + length (drop m piece ++ more) = ap length whole ∙ length-append t (drop m piece ++ more) in
      let same : length t - 1 + 1 ≡ length t = omega (arith, some, long, length-append p (take m piece), length-take m piece) in
      let text : take (length t - 1 + 1) ((p ++ piece) ++ more) ≡ t =
      ap (λ (n : ℕ). take n ((p ++ piece) ++ more)) same ∙ ap (λ (q : List ℕ). take (length t) q) whole ∙ take-append-le (length t) t (drop m piece ++ more) (omega arith) ∙ take_all (length t) t (omega arith) in
      inl (length t - 1, omega (arith, same, size), subst (λ (q : List ℕ). Unstopped stream limits q) (sym text) h)

-- ---- What a decoder pulled

-- Where no stop came.
pub unstopped_came : {R Part : Type 0} (stream : Stream R Part) (d : Decoder R) (p : List ℕ) (es : List Part) (piece : List ℕ) (used : ℕ) (what : Event Part) →
    d.stop ≡ None → ((stop : Stop) → what ≡ events.Stopped stop → ⊥) → PieceDid stream d.records d.meter p es piece used what → WhatCame stream d p es piece used what
unstopped_came stream d p es piece used events.NeedMore n never h = (n, h.0, h.1)
unstopped_came stream d p es piece used (events.Given e) n never h = (n, h.0, h.1, h.2)
unstopped_came stream d p es piece used (events.Stopped stop) n never h = absurd (never stop refl)
unstopped_came stream d p es piece used events.OutOfMemory n never h = (n, h.0, h.1, h.2)

module _ {R Form Part : Type 0} (stream : Form → Stream R Part) (form_of : R → Form) (form : Form) (limits : Limits) where
  abbrev Pulled : Decoder R → List ℕ → List Part → Type 0
  Pulled d p es = HasPulled stream form_of d form limits p es

  of_form_and_limits : (d : Decoder R) (P : Form → Limits → Type 0) → form_of d.records ≡ form → d.meter.limits ≡ limits → P (form_of d.records) d.meter.limits → P form limits
  of_form_and_limits d P e f x = subst (λ (l : Limits). P form l) f (subst (λ (q : Form). P q d.meter.limits) e x)

  pub unstopped_of : (d : Decoder R) (p : List ℕ) (es : List Part) → Pulled d p es → Unstopped (stream form) limits p
  unstopped_of d p es h = of_form_and_limits d (λ q l. Unstopped (stream q) l p) h.form_is h.limits_is h.stands.unstopped

  -- Before any piece.
  pub begun_with : (d : Decoder R) (es : List Part) → es ≡ [] → StandsFor (stream form) d [] [] → d.stop ≡ None → form_of d.records ≡ form → d.meter.limits ≡ limits → Pulled d [] es
  begun_with d es none s n e f =
      subst (λ (fs : List Part). Pulled d [] fs) (sym none) (record { stands = subst (λ (q : Form). StandsFor (stream q) d [] []) (sym e) s; stop = n; form_is = e; limits_is = f })

  -- The same bytes in other words.
  pub taken_of : (d : Decoder R) (p q : List ℕ) (es : List Part) → p ≡ q → Pulled d p es → Pulled d q es
  taken_of d p q es e h = subst (λ (t : List ℕ). Pulled d t es) e h

  -- A call of next with the rest of a piece.
  module _ (was now : Decoder R) (p piece rest : List ℕ) (es : List Part) (at used : ℕ) (h : Pulled was (p ++ take at piece) es) (back : rest ≡ drop at piece)
      (same_form : form_of now.records ≡ form_of was.records) (same_limits : now.meter.limits ≡ was.meter.limits) where
    -- What it did.
    abbrev pub PieceIs : Event Part → Type 0
    PieceIs events.NeedMore = (used ≡ length rest) × Pulled now (p ++ take (at + used) piece) es
    PieceIs (events.Given e) = (0 < used) × Pulled now (p ++ take (at + used) piece) (es ++ e ∷ [])
    PieceIs (events.Stopped stop) = EndsStream (stream form) limits (p ++ piece) (Stopped stop)
    PieceIs events.OutOfMemory = EndsStream (stream form) limits (p ++ piece) OutOfMemory

    taken_now : (fs : List Part) → now.stop ≡ None → StandsFor (stream (form_of now.records)) now ((p ++ take at piece) ++ take used rest) fs → Pulled now (p ++ take (at + used) piece) fs
    taken_now fs n s = taken_of now ((p ++ take at piece) ++ take used rest) (p ++ take (at + used) piece) fs (text_on p piece rest at used back)
        (record { stands = s; stop = n; form_is = same_form ∙ h.form_is; limits_is = same_limits ∙ h.limits_is })

    here : (P : Form → Limits → Type 0) → P (form_of now.records) now.meter.limits → P form limits
    here P x = of_form_and_limits now P (same_form ∙ h.form_is) (same_limits ∙ h.limits_is) x

    came : (what : Event Part) → WhatCame (stream (form_of now.records)) now (p ++ take at piece) es rest used what → PieceIs what
    came events.NeedMore w = (w.1, taken_now es w.0 w.2)
    came (events.Given e) w = (w.1, taken_now (es ++ e ∷ []) w.0 w.3)
    came (events.Stopped stop) w = λ more.
        stopped_in (stream form) limits (p ++ piece) more stop
        (subst (λ (t : List ℕ). StopsSo (stream form) limits t stop) (rest_on p piece rest at back) (here (λ q l. StopsSo (stream q) l ((p ++ take at piece) ++ rest) stop) w.2))
    came events.OutOfMemory w = λ more.
        starved_in (stream form) limits p piece more (at + (used + 1)) (omega arith) (omega (arith, w.1, left piece rest at back))
        (subst (λ (t : List ℕ). Unstopped (stream form) limits t) (text_on p piece rest at (used + 1) back) (here (λ q l. Unstopped (stream q) l ((p ++ take at piece) ++ take (used + 1) rest)) w.2))

    pub piece_is : (what : Event Part) →
        ((q : List ℕ) (fs : List Part) → was.stop ≡ None → StandsFor (stream (form_of was.records)) was q fs → WhatCame (stream (form_of now.records)) now q fs rest used what) → PieceIs what
    piece_is what next = came what (next (p ++ take at piece) es h.stop h.stands)

  -- Memory was refused for a part that was given.
  pub none_left : (d : Decoder R) (p piece : List ℕ) (m : ℕ) (es : List Part) → 0 < m → 0 < length piece → Pulled d (p ++ take m piece) es → EndsStream (stream form) limits (p ++ piece) OutOfMemory
  none_left d p piece m es some long h more = starved_in (stream form) limits p piece more m some long (unstopped_of d (p ++ take m piece) es h)

  -- The piece that comes next ended the stream.
  pub ended_in : (pieces : List (Bor (List ℕ))) (i : ℕ) (d : Bor (List ℕ)) (fault : StreamFault) → i < length pieces → EndsStream (stream form) limits (joined (take i pieces) ++ (get_or pieces i d).now) fault →
      Faults (stream form) limits (joined pieces) fault
  ended_in pieces i d fault lt h = subst (λ (t : List ℕ). Faults (stream form) limits t fault) (joined_on pieces i d lt) (h (joined (drop (i + 1) pieces)))

-- ---- The end of a snapshot

module _ (profile : Profile) (limits : Limits) (d : SnapshotDecoder) (bytes : List ℕ) (es : List EntryData) (h : HasTaken d profile limits bytes es) where
  pub taken_unstopped : IsSnapUnstopped profile limits bytes
  taken_unstopped = unstopped_of snap_stream (λ s. s.profile) profile limits d bytes es h

  pub end_ok : (last : Option EntryData) → FinishIs (profile_of d) bytes es (Ok last) → IsDecoded profile limits bytes (es ++ option_to_list last)
  end_ok last f = record { whole = subst (λ (q : Profile). SnapText q (es ++ option_to_list last) bytes) h.form_is f; unstopped = taken_unstopped }

  pub end_err : (stop : Stop) → FinishIs (profile_of d) bytes es (Err stop) → IsSnapFault profile limits bytes (Stopped stop)
  end_err (stops.Refused at why) f = absurd f
  end_err (stops.TooLong at) f = absurd f
  end_err (stops.TooMany at) f = absurd f
  end_err (stops.TooMuch at) f = absurd f
  end_err (stops.Cut at) f = record { at_end = f.0; unstopped = taken_unstopped; not_whole = subst (λ (q : Profile). Snap q bytes → ⊥) h.form_is f.1 }

-- ---- The end of a plan

module _ (profile : Profile) (limits : Limits) (d : PlanDecoder) (bytes : List ℕ) (items : List ItemData) (h : HasTakenPlan d profile limits bytes items) where
  plan_unstopped : IsPlanUnstopped profile limits bytes
  plan_unstopped = unstopped_of plan_stream (λ s. s.profile) profile limits d bytes items h

  pub plan_end : PlanFinishIs (plan_profile_of d) bytes items (Ok tt) → IsPlanDecoded profile limits bytes items
  plan_end f = record { whole = subst (λ (q : Profile). PlanText q items bytes) h.form_is f; unstopped = plan_unstopped }

  pub plan_end_err : (stop : Stop) → PlanFinishIs (plan_profile_of d) bytes items (Err stop) → IsPlanFault profile limits bytes (Stopped stop)
  plan_end_err (stops.Refused at why) f = absurd f
  plan_end_err (stops.TooLong at) f = absurd f
  plan_end_err (stops.TooMany at) f = absurd f
  plan_end_err (stops.TooMuch at) f = absurd f
  plan_end_err (stops.Cut at) f = record { at_end = f.0; unstopped = plan_unstopped; not_whole = subst (λ (q : Profile). Plan q bytes → ⊥) h.form_is f.1 }
