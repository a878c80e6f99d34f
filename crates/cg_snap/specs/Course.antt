-- What the bytes of a stream do to what takes them, of those that were consumed and the parts that were given: entries of a snapshot,
-- or items of a plan.
use Rattle.std.specs.Prelude.{◌≡◌, ℕ, ◌+◌, ◌-◌, ◌<◌, ◌⊎◌, List, [], ◌∷◌, ◌++◌, length, take, get_or, ◌↔◌, Option, Some, None, Bool, true, false}
use Rattle.cg_text.specs.Bytes.{HasByte}
use Rattle.cg_text.specs.Texts.{Lacks, Next}
use Rattle.cg_line.specs.declared.push.PushFault.{PushFault}
use Rattle.cg_line.specs.declared.push.PushFault.TheVariants.{OutOfMemory, Refused}
use Rattle.cg_snap.specs.Begun.{IsBegun}
use Rattle.cg_snap.specs.Meter.{IsCounted}
use Rattle.cg_snap.specs.Stop.{place_of}
use Rattle.cg_snap.specs.StreamStop.{IsStreamUnstopped, StreamStopOf}
use Rattle.cg_snap.specs.declared.event.Event.{Event}
use Rattle.cg_snap.specs.declared.event.Event.TheVariants as events
use Rattle.cg_snap.specs.declared.meter.Meter.{Meter}
use Rattle.cg_snap.specs.declared.stop.Stop.{Stop}
use Rattle.cg_snap.specs.declared.stop.Stop.TheVariants as stops
use Rattle.cg_snap.specs.declared.stop.Why.{Why}
use Rattle.cg_snap.specs.declared.stop.Why.TheVariants.{Line}

-- The rule that a byte breaks after p, by what is wrong with it after what is begun.
abbrev pub BreaksAfter : (List ℕ → ℕ → Why → Type 0) → List ℕ → ℕ → Why → Type 0
BreaksAfter Breaks p byte why = (begun : List ℕ) × IsBegun p begun × Breaks begun byte why

-- Why the byte can't come after p, none where it can.
abbrev pub RefusedBy : (List ℕ → Type 0) → (List ℕ → ℕ → Why → Type 0) → List ℕ → ℕ → Option Why → Type 0
RefusedBy L Breaks p byte None = Next L p byte
RefusedBy L Breaks p byte (Some why) = (Next L p byte → ⊥) × BreaksAfter Breaks p byte why

-- Whether with the byte there are more records of one path than the limit, where some text goes on with it.
abbrev pub FullIs : (List ℕ → Type 0) → (ℕ → List ℕ → ℕ → Type 0) → ℕ → List ℕ → ℕ → Bool → Type 0
FullIs L Many max p byte true = Next L p byte → Many max (p ++ byte ∷ []) (length p)
FullIs L Many max p byte false = Many max (p ++ byte ∷ []) (length p) → ⊥

-- With no byte of the run are there too many records of one path. Many says so of the last byte of a text.
abbrev pub AreFew : (List ℕ → ℕ → Type 0) → List ℕ → List ℕ → Type 0
AreFew Many p [] = Unit {0}
AreFew Many p (byte ∷ run) = (Many (p ++ byte ∷ []) (length p) → ⊥) × AreFew Many (p ++ byte ∷ []) run

-- The bytes with which some text goes on, where they are all known at once.
abbrev pub OffersAre : (List ℕ → Type 0) → List ℕ → Option (List Bool) → Type 0
OffersAre L p None = (byte : ℕ) → Next L p byte → byte < 256
OffersAre L p (Some set) = (byte : ℕ) → HasByte set byte ↔ Next L p byte

-- The bytes are of one record: none is a newline, or the last alone.
abbrev pub AreOfRecord : List ℕ → Type 0
AreOfRecord bytes = Lacks 10 bytes ⊎ ((line : List ℕ) × (bytes ≡ line ++ 10 ∷ []) × Lacks 10 line)

-- What makes a stream of records, and what the state S of its decoder says, whose parts are of the type Part.
pub record Stream (S Part : Type 0) : Type 1 where
  -- The texts of whole streams.
  pub language : List ℕ → Type 0
  -- Which rule a byte breaks after what is begun of its record.
  pub breaks : List ℕ → ℕ → Why → Type 0
  -- With the last byte of a text there are more records of one path than a limit.
  pub many : ℕ → List ℕ → ℕ → Type 0
  -- The parts that some bytes close.
  pub closes : List ℕ → List Part → Type 0
  -- The state took these bytes and gave these parts.
  pub at : S → List ℕ → List Part → Type 0

module _ {S Part : Type 0} (stream : Stream S Part) where
  -- Why the byte isn't taken after p, at its place: it breaks a rule, or begins a record too many.
  abbrev pub HoldsBack : ℕ → List ℕ → ℕ → Stop → Type 0
  HoldsBack max p byte (stops.Refused at why) = (at ≡ length p) × RefusedBy stream.language stream.breaks p byte (Some why)
  HoldsBack max p byte (stops.TooMany at) = (at ≡ length p) × Next stream.language p byte × stream.many max (p ++ byte ∷ []) (length p)
  HoldsBack max p byte (stops.TooLong at) = ⊥
  HoldsBack max p byte (stops.TooMuch at) = ⊥
  HoldsBack max p byte (stops.Cut at) = ⊥

  -- What bytes leave of which so many were taken, and why not the next one. A is what is so after some bytes and parts.
  abbrev pub Leaves : (List ℕ → List Part → Type 0) → ℕ → List ℕ → List Part → List ℕ → ℕ → Event Part → Type 0
  Leaves A max p es bytes used events.NeedMore = A (p ++ take used bytes) es
  Leaves A max p es bytes used (events.Given e) = (0 < used) × stream.closes (p ++ take (used - 1) bytes) es × A (p ++ take used bytes) (es ++ e ∷ [])
  Leaves A max p es bytes used (events.Stopped stop) = (used < length bytes) × A (p ++ take used bytes) es × HoldsBack max (p ++ take used bytes) (get_or bytes used 0) stop
  Leaves A max p es bytes used events.OutOfMemory =
      (used < length bytes) × A (p ++ take used bytes) es × Next stream.language (p ++ take used bytes) (get_or bytes used 0)
      × (stream.many max ((p ++ take used bytes) ++ get_or bytes used 0 ∷ []) (length (p ++ take used bytes)) → ⊥)

  -- The bytes p were consumed, of which none stops a stream, and the parts es given, which they close.
  pub record HasProgressed (s : S) (m : Meter) (p : List ℕ) (es : List Part) : Type 0 where
    pub state : stream.at s p es
    pub counted : IsCounted m p
    pub unstopped : IsStreamUnstopped stream.language stream.breaks stream.many m.limits p
    pub closed : stream.closes p es

  -- What the first bytes of a piece did, so many of them being consumed, where the piece may have more of them.
  abbrev pub Advances : S → Meter → List ℕ → List Part → List ℕ → ℕ → Event Part → Type 0
  Advances s m p es piece used events.NeedMore = HasProgressed s m (p ++ take used piece) es
  Advances s m p es piece used (events.Given e) = (0 < used) × stream.closes (p ++ take (used - 1) piece) es × HasProgressed s m (p ++ take used piece) (es ++ e ∷ [])
  Advances s m p es piece used (events.Stopped stop) =
      (used < length piece) × StreamStopOf stream.language stream.breaks stream.many m.limits ((p ++ take used piece) ++ get_or piece used 0 ∷ []) stop × HasProgressed s m (p ++ take used piece) es
  Advances s m p es piece used events.OutOfMemory =
      (used < length piece) × IsStreamUnstopped stream.language stream.breaks stream.many m.limits ((p ++ take used piece) ++ get_or piece used 0 ∷ []) × HasProgressed s m (p ++ take used piece) es

  -- The same, to the end of the piece where nothing comes.
  abbrev pub PieceDid : S → Meter → List ℕ → List Part → List ℕ → ℕ → Event Part → Type 0
  PieceDid s m p es piece used events.NeedMore = (used ≡ length piece) × HasProgressed s m (p ++ take used piece) es
  PieceDid s m p es piece used (events.Given e) = (0 < used) × stream.closes (p ++ take (used - 1) piece) es × HasProgressed s m (p ++ take used piece) (es ++ e ∷ [])
  PieceDid s m p es piece used (events.Stopped stop) =
      (used < length piece) × StreamStopOf stream.language stream.breaks stream.many m.limits (p ++ piece) stop × HasProgressed s m (p ++ take used piece) es × (place_of stop ≡ length p + used)
  PieceDid s m p es piece used events.OutOfMemory =
      (used < length piece) × IsStreamUnstopped stream.language stream.breaks stream.many m.limits (p ++ take (used + 1) piece) × HasProgressed s m (p ++ take used piece) es

-- What bytes of a line come to, by why a reader took no more of them, and the place of the next one.
abbrev pub IsLineEvent : {Part : Type 0} → Option PushFault → ℕ → Event Part → Type 0
IsLineEvent None at what = what ≡ events.NeedMore
IsLineEvent (Some Refused) at what = what ≡ events.Stopped (stops.Refused at Line)
IsLineEvent (Some OutOfMemory) at what = what ≡ events.OutOfMemory

-- A part comes with a byte; and where nothing comes, a byte was consumed, if there is one among so many.
abbrev pub GoesForward : {Part : Type 0} → ℕ → ℕ → Event Part → Type 0
GoesForward whole used events.NeedMore = 0 < whole → 0 < used
GoesForward whole used (events.Given e) = 0 < used
GoesForward whole used (events.Stopped stop) = Unit {0}
GoesForward whole used events.OutOfMemory = Unit {0}

-- Where nothing was found the whole piece, which is so long, was consumed; and a part comes with a byte.
abbrev pub IsMovedBy : {Part : Type 0} → ℕ → ℕ → Event Part → Type 0
IsMovedBy whole used events.NeedMore = used ≡ whole
IsMovedBy whole used (events.Given e) = 0 < used
IsMovedBy whole used (events.Stopped stop) = Unit {0}
IsMovedBy whole used events.OutOfMemory = Unit {0}
