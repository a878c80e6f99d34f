-- What a decoder finds that took some bytes.
use Rattle.std.proofs.Common.{◌≡◌, ℕ, ◌+◌, ◌-◌, ◌<◌, List, [], ◌∷◌, ◌++◌, length, take, None, subst, ◌∙◌}
use Rattle.cg_snap.specs.Course.{Stream}
use Rattle.cg_snap.specs.Pulled.{HasPulled, StandsFor, WhatCame}
use Rattle.cg_snap.specs.Stop.{place_of}
use Rattle.cg_snap.specs.StreamStop.{IsStreamUnstopped, StreamStopOf}
use Rattle.cg_snap.specs.declared.decoder.Decoder.{Decoder}
use Rattle.cg_snap.specs.declared.event.Event.{Event}
use Rattle.cg_snap.specs.declared.event.Event.TheVariants as events
use Rattle.cg_snap.specs.declared.limits.Limits.{Limits}
use Rattle.cg_snap.specs.declared.stop.Stop.{Stop}
use Rattle.cg_snap.specs.declared.stop.Stop.TheVariants as stops
use Rattle.cg_run.specs.Streaming.{IsByteStop}

-- Taken says which bytes were taken and which parts given, and Closed which parts some bytes close.
module _ {E : Type 0} (Taken Closed : List ℕ → List E → Type 0) (Unstopped : List ℕ → Type 0) (StopOf : List ℕ → Stop → Type 0) (p : List ℕ) (es : List E) (piece : List ℕ) (used : ℕ) where
  abbrev pub PulledBy : Event E → Type 0
  PulledBy events.NeedMore = Taken (p ++ take used piece) es
  PulledBy (events.Given e) = (0 < used) × Taken (p ++ take used piece) (es ++ e ∷ []) × Closed (p ++ take (used - 1) piece) es
  PulledBy (events.Stopped stop) = IsByteStop stop × StopOf (p ++ piece) stop × (place_of stop ≡ length p + used) × Closed (p ++ take used piece) es
  PulledBy events.OutOfMemory =
      (used < length piece) × Unstopped (p ++ take used piece) × Unstopped (p ++ take (used + 1) piece) × Closed (p ++ take used piece) es

module _ {R Form Part : Type 0} {stream : Form → Stream R Part} {form_of : R → Form} (was now : Decoder R) (form : Form) (limits : Limits) (p : List ℕ) (es : List Part) (piece : List ℕ) (used : ℕ)
    (h : HasPulled stream form_of was form limits p es) (same_form : form_of now.records ≡ form_of was.records) (same_limits : now.meter.limits ≡ was.meter.limits) where
  taken : (q : List ℕ) (fs : List Part) → now.stop ≡ None → StandsFor (stream (form_of now.records)) now q fs → HasPulled stream form_of now form limits q fs
  taken q fs n s = record { stands = s; stop = n; form_is = same_form ∙ h.form_is; limits_is = same_limits ∙ h.limits_is }

  of_form : (P : Form → Limits → Type 0) → P (form_of now.records) now.meter.limits → P form limits
  of_form P x = subst (λ (l : Limits). P form l) (same_limits ∙ h.limits_is) (subst (λ (q : Form). P q now.meter.limits) (same_form ∙ h.form_is) x)

  abbrev IsUnstopped : Form → Limits → List ℕ → Type 0
  IsUnstopped q l = IsStreamUnstopped (stream q).language (stream q).breaks (stream q).many l

  abbrev IsStopOf : Form → Limits → List ℕ → Stop → Type 0
  IsStopOf q l = StreamStopOf (stream q).language (stream q).breaks (stream q).many l

  byte_stop : (bytes : List ℕ) (s : Stop) → IsStopOf (form_of now.records) now.meter.limits bytes s → IsByteStop s
  byte_stop bytes (stops.Refused at why) x = tt
  byte_stop bytes (stops.TooLong at) x = tt
  byte_stop bytes (stops.TooMany at) x = tt
  byte_stop bytes (stops.TooMuch at) x = tt
  byte_stop bytes (stops.Cut at) x = absurd x.stops

  abbrev pub PulledIs : Event Part → Type 0
  PulledIs = PulledBy (HasPulled stream form_of now form limits) (stream form).closes (IsUnstopped form limits) (IsStopOf form limits) p es piece used

  pub pulled_is : (what : Event Part) → WhatCame (stream (form_of now.records)) now p es piece used what → PulledIs what
  pulled_is events.NeedMore w = taken (p ++ take used piece) es w.0 w.2
  pulled_is (events.Given e) w = (w.1, taken (p ++ take used piece) (es ++ e ∷ []) w.0 w.3, of_form (λ q l. (stream q).closes (p ++ take (used - 1) piece) es) w.2)
  pulled_is (events.Stopped stop) w = (
    byte_stop (p ++ piece) stop w.2,
    of_form (λ q l. IsStopOf q l (p ++ piece) stop) w.2,
    w.4,
    of_form (λ q l. (stream q).closes (p ++ take used piece) es) w.3.closed,
  )
  pulled_is events.OutOfMemory w = (
    w.1,
    of_form (λ q l. IsUnstopped q l (p ++ take used piece)) w.3.unstopped,
    of_form (λ q l. IsUnstopped q l (p ++ take (used + 1) piece)) w.2,
    of_form (λ q l. (stream q).closes (p ++ take used piece) es) w.3.closed,
  )
