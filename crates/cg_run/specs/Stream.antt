-- What a run over a stream writes: parts, one for each entry or item of the stream, each as soon as the bytes close it.
use Rattle.std.specs.Prelude.{◌≡◌, ◌≢◌, ℕ, ◌+◌, ◌<◌, ◌≤◌, ◌⊎◌, true, List, [], ◌∷◌, ◌++◌, length, map, take}
use Rattle.cg_value.specs.Entry.{EntryData, ItemData}
use Rattle.cg_value.specs.Print.{print_lines, print_setting_of}
use Rattle.cg_json.specs.Entry.{line_of}
use Rattle.cg_print.specs.Headed.{shown}
use Rattle.cg_snap.specs.Stop.{place_of}
use Rattle.cg_snap.specs.declared.stop.Stop.{Stop}
use Rattle.cg_snap.specs.declared.stop.Stop.TheVariants as stop
use Rattle.cg_outcome.specs.Input.{Reading, IsEnded}
use Rattle.cg_outcome.specs.declared.outcome.Outcome.{Outcome}
use Rattle.cg_outcome.specs.declared.outcome.Outcome.TheVariants as out

-- The part of an entry that is shown.
abbrev pub shown_part : EntryData → List ℕ
shown_part e = shown e.path (print_lines e.value)

-- The part of an entry as a line of JSON.
abbrev pub json_part : EntryData → List ℕ
json_part e = line_of e

-- The part of an item that is printed: its record in a plan, with the canonical line.
abbrev pub item_part : ItemData → List ℕ
item_part item = item.path ++ 0 ∷ print_setting_of item.setting

-- The parts of the entries, items or what else is told that some bytes have by a relation: one of each, or of all together.
abbrev pub PartsOf : {E : Type 0} → (E → List ℕ) → (List ℕ → List E → Type 0) → List ℕ → List (List ℕ) → Type 0
PartsOf {E} part Has bytes parts = (es : List E) × Has bytes es × (parts ≡ map part es)

abbrev pub PartsOfAll : {E : Type 0} → (List E → List (List ℕ)) → (List ℕ → List E → Type 0) → List ℕ → List (List ℕ) → Type 0
PartsOfAll {E} parts_of Has bytes parts = (es : List E) × Has bytes es × (parts ≡ parts_of es)

-- The same of a whole stream, with the outcome of a run over it.
abbrev pub WholeOf : {E : Type 0} → (List E → List (List ℕ)) → (List E → Outcome) → (List ℕ → List E → Type 0) → List ℕ → List (List ℕ) → Outcome → Type 0
WholeOf {E} parts_of outcome_of Has bytes parts o = (es : List E) × Has bytes es × (parts ≡ parts_of es) × (o ≡ outcome_of es)

abbrev pub DoneOf : {E : Type 0} → (E → List ℕ) → (List ℕ → List E → Type 0) → List ℕ → List (List ℕ) → Outcome → Type 0
DoneOf {E} part = WholeOf (map part) (λ (es : List E). out.Done)

-- Whole says of a whole stream which parts it has and how a run over it ends, and Closes of the first bytes of one which parts they close; Unstopped says
-- of bytes that none of them stops the stream, and StopsBy by which stop the first does that stops it.
module _ (Whole : List ℕ → List (List ℕ) → Outcome → Type 0) (Closes : List ℕ → List (List ℕ) → Type 0) (Unstopped : List ℕ → Type 0) (StopsBy : List ℕ → Stop → Type 0) where
  -- A whole stream was read.
  pub record IsStreamDone (r : Reading) (o : Outcome) (parts : List (List ℕ)) : Type 0 where
    pub ended : IsEnded r
    pub unstopped : Unstopped r.bytes
    pub whole : Whole r.bytes parts o

  -- The input ended before a stream did.
  pub record IsStreamCut (r : Reading) (at : ℕ) (parts : List (List ℕ)) : Type 0 where
    pub ended : IsEnded r
    pub unstopped : Unstopped r.bytes
    pub not_whole : (all : List (List ℕ)) (o : Outcome) → Whole r.bytes all o → ⊥
    pub at_end : at ≡ length r.bytes
    pub closed : Closes r.bytes parts

  -- A byte stopped the stream. The parts are those that the bytes before it close.
  pub record IsStreamStopped (r : Reading) (s : Stop) (parts : List (List ℕ)) : Type 0 where
    pub stops : StopsBy r.bytes s
    pub closed : Closes (take (place_of s) r.bytes) parts

  -- A read failed, and no byte before it stopped the stream.
  pub record IsStreamFault (r : Reading) (parts : List (List ℕ)) : Type 0 where
    pub unstopped : Unstopped r.bytes
    pub failed : r.failed ≡ true
    pub closed : Closes r.bytes parts

  -- Memory was refused after some first bytes, of which none stops the stream: for the next byte, which doesn't stop it
  -- either, or for a part. The parts are first ones of those that these bytes close, or of the whole stream at its end.
  pub record IsStreamStarved (r : Reading) (parts : List (List ℕ)) : Type 0 where
    pub at : ℕ
    pub within : at ≤ length r.bytes
    pub unstopped : Unstopped (take at r.bytes)
    pub more : List (List ℕ)
    pub has : Closes (take at r.bytes) (parts ++ more) ⊎ ((o : Outcome) × IsStreamDone r o (parts ++ more))
    pub wants : ((at < length r.bytes) × Unstopped (take (at + 1) r.bytes)) ⊎ (parts ++ more ≢ [])

  abbrev pub IsStreamStop : Reading → Stop → List (List ℕ) → Type 0
  IsStreamStop r (stop.Cut at) parts = IsStreamCut r at parts
  IsStreamStop r s parts = IsStreamStopped r s parts

  -- The outcome that is right where the run ends before a whole stream was read, or wants memory, with the parts that are
  -- written before the last line.
  abbrev pub IsEarlyRight : Reading → Outcome → List (List ℕ) → Type 0
  IsEarlyRight r out.Done parts = ⊥
  IsEarlyRight r (out.Findings n) parts = ⊥
  IsEarlyRight r (out.LeftOut n) parts = ⊥
  IsEarlyRight r (out.Stopped s) parts = IsStreamStop r s parts
  IsEarlyRight r out.NotReadable parts = ⊥
  IsEarlyRight r out.NotWritable parts = ⊥
  IsEarlyRight r out.ReadFault parts = IsStreamFault r parts
  IsEarlyRight r (out.WriteFault n) parts = ⊥
  IsEarlyRight r out.OutOfMemory parts = IsStreamStarved r parts

  -- The outcome that is right where each part is written as soon as the bytes close it.
  abbrev pub IsStreamRight : Reading → Outcome → List (List ℕ) → Type 0
  IsStreamRight r out.Done parts = IsStreamDone r out.Done parts
  IsStreamRight r (out.Findings n) parts = IsStreamDone r (out.Findings n) parts
  IsStreamRight r (out.LeftOut n) parts = IsStreamDone r (out.LeftOut n) parts
  IsStreamRight r o parts = IsEarlyRight r o parts
