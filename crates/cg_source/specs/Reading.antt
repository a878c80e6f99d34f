-- How the reading of one text ended.
use Rattle.std.specs.Prelude.{◌≡◌, ℕ, ◌+◌, ◌<◌, ◌≤◌, Bool, true, false, List, ◌++◌, length, take, slice_index_or, Option, Some, None}
use Rattle.std.specs.Io.KnownBytes.{Consumes, IsAtEnd}
use Rattle.cg_line.specs.declared.push.PushFault.{PushFault}
use Rattle.cg_line.specs.declared.push.PushFault.TheVariants as push
use Rattle.cg_snap.specs.Stop.{IsTextUnstopped, TextStopOf, place_of}
use Rattle.cg_snap.specs.declared.stop.Stop.{Stop}
use Rattle.cg_snap.specs.declared.stop.Stop.TheVariants.{Refused}
use Rattle.cg_snap.specs.declared.stop.Why.TheVariants.{Line}
use Rattle.cg_outcome.specs.Lines.{AreBehind}
use Rattle.cg_outcome.specs.declared.lines.Lines.{Lines}
use Rattle.cg_source.specs.declared.reading.Ending.{Ending}
use Rattle.cg_source.specs.declared.reading.Ending.TheVariants.{End, Stopped, ReadFault, OutOfMemory}

-- Memory was refused at one of these bytes, and none up to it stops the run.
pub record IsTextStarved (L : List ℕ → Type 0) (max : ℕ) (text : List ℕ) : Type 0 where
  pub at : ℕ
  pub within : at < length text
  pub unstopped : IsTextUnstopped L max (take (at + 1) text)

-- How reading ends at a byte of a place, which was not taken.
abbrev pub ending_of : PushFault → (at : ℕ) (byte : Option ℕ) → Ending
ending_of push.Refused at byte = Stopped (Refused at Line) byte
ending_of push.OutOfMemory at byte = OutOfMemory

-- The lines are counted up to the byte that stops the run, or up to the end.
abbrev pub AreBehindEnding : Option Lines → List ℕ → Ending → Type 0
AreBehindEnding lines read (End at) = AreBehind lines read
AreBehindEnding lines read (Stopped stop byte) = AreBehind lines (take (place_of stop) read)
AreBehindEnding lines read ReadFault = Unit {0}
AreBehindEnding lines read OutOfMemory = Unit {0}

-- ... or up to the end of a piece.
abbrev pub AreBehindPiece : Option Lines → List ℕ → Option Ending → Type 0
AreBehindPiece lines read None = AreBehind lines read
AreBehindPiece lines read (Some ending) = AreBehindEnding lines read ending

-- The reader took these bytes, of which none stops the run.
abbrev pub GoesOn : (List ℕ → Type 0) → ℕ → List ℕ → Type 0
GoesOn Took max taken = Took taken × (length taken ≤ max)

-- L is the set of the texts, and Took says of some bytes that the reader took them.
module _ (L Took : List ℕ → Type 0) (max : ℕ) where
  -- The first byte that stops the run stops it so, and the reader took those before it.
  pub record IsStoppedAt (text : List ℕ) (stop : Stop) (byte : Option ℕ) : Type 0 where
    pub stops : TextStopOf L max text stop
    pub took : Took (take (place_of stop) text)
    pub within : place_of stop ≤ max
    pub byte_is : byte ≡ Some (slice_index_or text (place_of stop) 0)

  -- How taking a piece went, after the bytes taken before: all of it was taken, or why not.
  abbrev pub TookPiece : List ℕ → List ℕ → Option Ending → Type 0
  TookPiece taken piece None = GoesOn Took max (taken ++ piece)
  TookPiece taken piece (Some (End at)) = ⊥
  TookPiece taken piece (Some (Stopped stop byte)) = IsStoppedAt (taken ++ piece) stop byte
  TookPiece taken piece (Some ReadFault) = ⊥
  TookPiece taken piece (Some OutOfMemory) = IsTextStarved L max (taken ++ piece)

  -- How reading these bytes ended: the source, with these bytes left, has nothing to come and hasn't failed; or a byte
  -- stopped the run; or the source has failed; or memory was refused
  -- before a byte stopped the run.
  abbrev pub EndsBy : List ℕ → Option (List ℕ) → Bool → Ending → Type 0
  EndsBy read left failed (End at) = GoesOn Took max read × IsAtEnd left × (failed ≡ false) × (at ≡ length read)
  EndsBy read left failed (Stopped stop byte) = IsStoppedAt read stop byte
  EndsBy read left failed ReadFault = IsTextUnstopped L max read × (failed ≡ true)
  EndsBy read left failed OutOfMemory = IsTextStarved L max read

  pub record HasRead (coming left : Option (List ℕ)) (failed : Bool) (lines : Option Lines) (e : Ending) : Type 0 where
    pub read : List ℕ
    pub consumed : Consumes coming left read
    pub ends : EndsBy read left failed e
    pub behind : AreBehindEnding lines read e

-- What a loop of reads has done so far.
pub record ReadSoFar (Took : List ℕ → Type 0) (max : ℕ) (coming left : Option (List ℕ)) (failed : Bool) (at : ℕ) (lines : Option Lines) : Type 0 where
  pub read : List ℕ
  pub consumed : Consumes coming left read
  pub goes_on : GoesOn Took max read
  pub place : at ≡ length read
  pub works : failed ≡ false
  pub behind : AreBehind lines read
