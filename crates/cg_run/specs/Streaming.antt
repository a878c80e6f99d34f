-- What the steps of a run over a stream do.
use Rattle.std.specs.Prelude.{◌≡◌, ◌≢◌, ℕ, ◌+◌, ◌<◌, ◌⊎◌, Bool, List, [], ◌++◌, length, take, Option, Result, Ok, Err}
use Rattle.cg_snap.specs.Stop.{place_of}
use Rattle.cg_snap.specs.declared.decode.StreamFault.{StreamFault}
use Rattle.cg_snap.specs.declared.decode.StreamFault.TheVariants as faults
use Rattle.cg_snap.specs.declared.event.Event.{Event}
use Rattle.cg_snap.specs.declared.event.Event.TheVariants as events
use Rattle.cg_snap.specs.declared.stop.Stop.{Stop}
use Rattle.cg_snap.specs.declared.stop.Stop.TheVariants as stop
use Rattle.cg_outcome.specs.Input.{Reading}
use Rattle.cg_outcome.specs.Outcome.{gone_on, last_line}
use Rattle.cg_outcome.specs.Wrote.{HasWritten, Wrote, joined}
use Rattle.cg_outcome.specs.declared.outcome.Outcome.{Outcome}

-- A byte is at fault, and not the end.
abbrev pub IsByteStop : Stop → Type 0
IsByteStop (stop.Cut at) = ⊥
IsByteStop s = Unit {0}

-- Closes says which parts some bytes close, and Unstopped that none of them stops the stream.
module _ (Closes : List ℕ → List (List ℕ) → Type 0) (Unstopped : List ℕ → Type 0) where
  -- Memory was refused for the byte of the piece behind those that were consumed, which doesn't stop the stream either; or for
  -- parts that these close.
  abbrev pub WantsMemory : List ℕ → List (List ℕ) → List ℕ → ℕ → Type 0
  WantsMemory p parts piece used =
      ((used < length piece) × Unstopped (p ++ take used piece) × Unstopped (p ++ take (used + 1) piece) × Closes (p ++ take used piece) parts)
      ⊎ ((more : List (List ℕ)) × (more ≢ []) × Unstopped (p ++ take used piece) × Closes (p ++ take used piece) (parts ++ more))

  -- What a call of next came to that consumed so many bytes of the piece, where these parts were given in all. Took says that
  -- the reader consumed some bytes and gave some parts.
  abbrev pub LeadsTo : (List ℕ → List (List ℕ) → Type 0) → (List ℕ → Stop → Type 0) → List ℕ → List (List ℕ) → List ℕ → ℕ → Event (Unit {0}) → Type 0
  LeadsTo Took StopsBy p all piece used events.NeedMore = Took (p ++ take used piece) all
  LeadsTo Took StopsBy p all piece used (events.Given u) = Took (p ++ take used piece) all
  LeadsTo Took StopsBy p all piece used (events.Stopped s) =
      IsByteStop s × StopsBy (p ++ piece) s × (place_of s ≡ length p + used) × Closes (p ++ take used piece) all
  LeadsTo Took StopsBy p all piece used events.OutOfMemory = WantsMemory p all piece used

  -- The same, where parts were given before, and the texts of those that this call gives are appended.
  pub record FoundIs (Took : List ℕ → List (List ℕ) → Type 0) (StopsBy : List ℕ → Stop → Type 0) (p : List ℕ) (parts : List (List ℕ))
      (piece : List ℕ) (used : ℕ) (old new : List ℕ) (found : Event (Unit {0})) : Type 0 where
    pub more : List (List ℕ)
    pub out_is : new ≡ old ++ joined more
    pub leads : LeadsTo Took StopsBy p (parts ++ more) piece used found

-- Behind a stop the reader stands where the byte at fault is next.
abbrev pub StandsBehind : (List ℕ → Type 0) → List ℕ → List ℕ → ℕ → Event (Unit {0}) → Type 0
StandsBehind Stood p piece used events.NeedMore = Unit {0}
StandsBehind Stood p piece used (events.Given u) = Unit {0}
StandsBehind Stood p piece used (events.Stopped s) = (used < length piece) × Stood (p ++ take used piece)
StandsBehind Stood p piece used events.OutOfMemory = Unit {0}

-- Where the stream goes on a byte was consumed, if the piece, which is so long, has one.
abbrev pub IsFoundBy : ℕ → ℕ → Event (Unit {0}) → Type 0
IsFoundBy whole used events.NeedMore = 0 < whole → 0 < used
IsFoundBy whole used (events.Given u) = 0 < whole → 0 < used
IsFoundBy whole used (events.Stopped s) = Unit {0}
IsFoundBy whole used events.OutOfMemory = Unit {0}

-- The text of a part was appended, if there was one, and there was memory for it; and what was found is told without it.
abbrev pub IsAppended : {Part : Type 0} → (Part → List ℕ) → Event Part → List ℕ → List ℕ → Event (Unit {0}) → Type 0
IsAppended text events.NeedMore old new events.NeedMore = new ≡ old
IsAppended text (events.Given part) old new (events.Given u) = new ≡ old ++ text part
IsAppended text (events.Given part) old new events.OutOfMemory = new ≡ old
IsAppended text (events.Stopped s) old new (events.Stopped t) = (new ≡ old) × (t ≡ s)
IsAppended text events.OutOfMemory old new events.OutOfMemory = new ≡ old
IsAppended text what old new found = ⊥

-- Whole says which parts a whole stream has, and how a run over it ends.
module _ (Whole : List ℕ → List (List ℕ) → Outcome → Type 0) where
  -- The bytes are a whole stream, or none.
  abbrev pub HasWhole : List ℕ → Type 0
  HasWhole p = (all : List (List ℕ)) × (o : Outcome) × Whole p all o

  abbrev pub HasNoWhole : List ℕ → Type 0
  HasNoWhole p = (all : List (List ℕ)) (o : Outcome) → Whole p all o → ⊥

  -- They are none, and the stop tells where they end.
  abbrev pub IsCutAt : List ℕ → Stop → Type 0
  IsCutAt p (stop.Cut at) = (at ≡ length p) × HasNoWhole p
  IsCutAt p s = ⊥

  -- Why the end of the bytes leaves nothing: they are no stream, or memory was refused for a part that they have at last, or for
  -- what is written then.
  abbrev pub IsEndFault : List ℕ → List (List ℕ) → StreamFault → Type 0
  IsEndFault p parts (faults.Stopped s) = IsCutAt p s
  IsEndFault p parts faults.OutOfMemory = (more : List (List ℕ)) × (o : Outcome) × Whole p (parts ++ more) o

  -- What the end of the bytes leaves, by what a whole stream of them has: more parts, whose texts are appended, and how many blocks
  -- were left out.
  abbrev pub EndIs : List ℕ → List (List ℕ) → List ℕ → List ℕ → Result ℕ StreamFault → Type 0
  EndIs p parts old new (Ok left_out) = (more : List (List ℕ)) × Whole p (parts ++ more) (gone_on left_out) × (new ≡ old ++ joined more)
  EndIs p parts old new (Err (faults.Stopped s)) = IsCutAt p s × (new ≡ old)
  EndIs p parts old new (Err faults.OutOfMemory) = ((more : List (List ℕ)) × (o : Outcome) × (more ≢ []) × Whole p (parts ++ more) o) × (new ≡ old)

-- A run that ends after these bytes were read, however much the source has left: the outcome that is right, its parts, and
-- what was written. Tells says what is written behind the last line.
pub record EndsSo (Right : Reading → Outcome → List (List ℕ) → Type 0) (Tells : Reading → Outcome → List ℕ → Type 0) (read : List ℕ) (left : Option (List ℕ)) (read_failed : Bool)
    (first now : Option (List ℕ)) (write_failed : Bool) (o : Outcome) : Type 0 where
  pub wanted : Outcome
  pub parts : List (List ℕ)
  pub right : Right (record { bytes = read; left = left; failed = read_failed }) wanted parts
  pub more : List ℕ
  pub tells : Tells (record { bytes = read; left = left; failed = read_failed }) wanted more
  pub wrote : Wrote first now write_failed (joined parts ++ (last_line wanted ++ more)) wanted o

-- What was read and written before a piece.
pub record Before (Took : List ℕ → List (List ℕ) → Type 0) (first now : Option (List ℕ)) (written : ℕ) (read : List ℕ) : Type 0 where
  pub parts : List (List ℕ)
  pub took : Took read parts
  pub wrote : HasWritten first now parts written
