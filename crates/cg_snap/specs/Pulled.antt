-- What the calls of a decoder promise, whatever stream it is of, by the bytes that it consumed and the parts that it gave.
use Rattle.std.specs.Prelude.{◌≡◌, ℕ, ◌+◌, ◌-◌, ◌<◌, List, [], ◌∷◌, ◌++◌, length, take, Some, None}
use Rattle.cg_snap.specs.Course.{HasProgressed, Stream}
use Rattle.cg_snap.specs.Stop.{place_of}
use Rattle.cg_snap.specs.StreamStop.{IsStreamUnstopped, StreamStopOf}
use Rattle.cg_snap.specs.declared.decoder.Decoder.{Decoder}
use Rattle.cg_snap.specs.declared.event.Event.{Event}
use Rattle.cg_snap.specs.declared.event.Event.TheVariants as events
use Rattle.cg_snap.specs.declared.event.Progress.{Progress}
use Rattle.cg_snap.specs.declared.limits.Limits.{Limits}
use Rattle.cg_snap.specs.declared.stop.Stop.{Stop}

module _ {R Part : Type 0} (stream : Stream R Part) where
  -- The decoder consumed the bytes p, of which none stops a stream, and gave the parts es.
  abbrev pub StandsFor : Decoder R → List ℕ → List Part → Type 0
  StandsFor d = HasProgressed stream d.records d.meter

  -- What a call of next leaves that consumed so many bytes of the piece. A part comes with the byte that closes it; the stop
  -- is that of the stream, at the first byte that isn't consumed; and where memory was refused, no rule and no limit stops the byte.
  abbrev pub WhatCame : Decoder R → List ℕ → List Part → List ℕ → ℕ → Event Part → Type 0
  WhatCame new p es piece used events.NeedMore = (new.stop ≡ None) × (used ≡ length piece) × StandsFor new (p ++ take used piece) es
  WhatCame new p es piece used (events.Given e) =
      (new.stop ≡ None) × (0 < used) × stream.closes (p ++ take (used - 1) piece) es × StandsFor new (p ++ take used piece) (es ++ e ∷ [])
  WhatCame new p es piece used (events.Stopped stop) =
      (new.stop ≡ Some stop) × (used < length piece) × StreamStopOf stream.language stream.breaks stream.many new.meter.limits (p ++ piece) stop
      × StandsFor new (p ++ take used piece) es × (place_of stop ≡ length p + used)
  WhatCame new p es piece used events.OutOfMemory =
      (new.stop ≡ None) × (used < length piece) × IsStreamUnstopped stream.language stream.breaks stream.many new.meter.limits (p ++ take (used + 1) piece)
      × StandsFor new (p ++ take used piece) es

-- What a decoder that stopped answers, whatever comes.
abbrev pub IsStuck : {R Part : Type 0} → Decoder R → Decoder R → Progress Part → Stop → Type 0
IsStuck old new progress stop = (progress.used ≡ 0) × (progress.what ≡ events.Stopped stop) × (new ≡ old)

-- The decoder, which is of this form and has these limits, consumed the bytes and gave these parts; and no stop came.
pub record HasPulled {R Form Part : Type 0} (stream : Form → Stream R Part) (form_of : R → Form) (d : Decoder R) (form : Form) (limits : Limits) (bytes : List ℕ)
    (es : List Part) : Type 0 where
  pub stands : StandsFor (stream (form_of d.records)) d bytes es
  pub stop : d.stop ≡ None
  pub form_is : form_of d.records ≡ form
  pub limits_is : d.meter.limits ≡ limits
