-- What is told of a snapshot where what is at fault is left out, and the stream is gone on with: of each block its entry, or that it
-- is left out.
use Rattle.std.proofs.Common.{inl, inr}
use Rattle.std.specs.Prelude.{◌≡◌, ◌≢◌, ◌↔◌, ℕ, ◌+◌, ◌<◌, ◌≤◌, ◌⊎◌, Bool, List, [], ◌∷◌, ◌++◌, length, flat_map, Option, Some, None}
use Rattle.std.specs.List.{AllByRecursion}
use Rattle.cg_text.specs.Bytes.{HasByte}
use Rattle.cg_text.specs.Texts.{Lacks, Next}
use Rattle.cg_value.specs.Entry.{EntryData, IsPath}
use Rattle.cg_value.specs.Records.{records}
use Rattle.cg_value.specs.declared.profile.Profile.{Profile}
use Rattle.cg_snap.specs.Begun.{IsRecordEnd}
use Rattle.cg_snap.specs.Decode.{IsDecoded}
use Rattle.cg_snap.specs.Snap.{Snap}
use Rattle.cg_snap.specs.SnapStop.{IsSnapUnstopped, SnapStopOf}
use Rattle.cg_snap.specs.Stop.{place_of}
use Rattle.cg_snap.specs.declared.going_on.Cause.{Cause}
use Rattle.cg_snap.specs.declared.going_on.Cause.TheVariants as causes
use Rattle.cg_snap.specs.declared.going_on.Found.{Found}
use Rattle.cg_snap.specs.declared.going_on.LeftOut.{LeftOut}
use Rattle.cg_snap.specs.declared.limits.Limits.{Limits}
use Rattle.cg_snap.specs.declared.stop.Stop.{Stop}
use Rattle.cg_snap.specs.declared.stop.Stop.TheVariants as stops

-- The line has this path, as far as it came: what stands before its first NUL is a good path, and a record that is no longer than
-- the limit has room for that NUL.
pub record HasPath (max : ℕ) (line path : List ℕ) : Type 0 where
  pub good : IsPath path
  pub within : length path < max
  pub back : List ℕ
  pub split : line ≡ path ++ 0 ∷ back

-- Whether the line has a path isn't known yet: neither its NUL nor its newline came, and its record isn't too long.
pub record IsOpen (max : ℕ) (line : List ℕ) : Type 0 where
  pub no_nul : Lacks 0 line
  pub plain : Lacks 10 line
  pub short : length line ≤ max

-- Lines of one path, at least one; the last may have begun alone.
pub record AreOfOnePath (path bytes : List ℕ) : Type 0 where
  pub lines : List (List ℕ)
  pub begun : List ℕ
  pub split : bytes ≡ records path lines ++ begun
  pub plain : AllByRecursion (Lacks 10) lines
  pub last : ((begun ≡ []) × (lines ≢ [])) ⊎ ((line : List ℕ) × Lacks 10 line × (begun ≡ path ++ 0 ∷ line))

-- A line that has no path, as far as it came.
pub record IsWithoutPath (max : ℕ) (bytes : List ℕ) : Type 0 where
  pub line : List ℕ
  pub plain : Lacks 10 line
  pub split : (bytes ≡ line) ⊎ (bytes ≡ line ++ 10 ∷ [])
  pub known : IsOpen max bytes → ⊥
  pub none : (path : List ℕ) → HasPath max bytes path → ⊥

-- A block: lines of one path that come one after another, or a line that has none.
pub record Block : Type 0 where
  pub path : Option (List ℕ)
  pub bytes : List ℕ

abbrev pub block_with : Option (List ℕ) → List ℕ → ℕ → Block
block_with path bytes byte = record { path = path; bytes = bytes ++ byte ∷ [] }

abbrev pub IsBlockOf : ℕ → Option (List ℕ) → List ℕ → Type 0
IsBlockOf max None bytes = IsWithoutPath max bytes
IsBlockOf max (Some path) bytes = IsPath path × (length path < max) × AreOfOnePath path bytes

-- A block begins where the one before it has ended, and has another path where both have one.
pub record Follows (max : ℕ) (before : List ℕ) (path : Option (List ℕ)) (block : Block) : Type 0 where
  pub ended : IsRecordEnd before
  pub is_block : IsBlockOf max block.path block.bytes
  pub other : (q : List ℕ) → path ≡ Some q → block.path ≡ Some q → ⊥

-- The limits of a block alone, which may be as long as it likes.
abbrev pub block_limits : Limits → Limits
block_limits limits = record { max_record = limits.max_record; max_lines = limits.max_lines; max_stream = 18446744073709551615 }

-- The limit of the whole stream, which nothing else stops.
abbrev pub stream_limits : Limits → Limits
stream_limits limits = record { max_record = 18446744073709551615; max_lines = 18446744073709551615; max_stream = limits.max_stream }

-- What is told of a block: its entry, or that it is left out.
abbrev pub Told : Type 0
Told = EntryData ⊎ LeftOut

abbrev pub IsCause : Cause → Stop → Type 0
IsCause (causes.Refused why) stop = (at : ℕ) × (stop ≡ stops.Refused at why)
IsCause causes.TooLong stop = (at : ℕ) × (stop ≡ stops.TooLong at)
IsCause causes.TooMany stop = (at : ℕ) × (stop ≡ stops.TooMany at)

module _ (profile : Profile) (limits : Limits) where
  -- The block, before which so many bytes stand, is at fault: some byte stops it where it is read alone.
  pub record IsLeftOut (start : ℕ) (block : Block) (out : LeftOut) : Type 0 where
    pub stop : Stop
    pub stops : SnapStopOf profile (block_limits limits) block.bytes stop
    pub at : out.at ≡ start + place_of stop
    pub path : out.path ≡ block.path
    pub cause : IsCause out.cause stop

  -- So of a block that another follows is told its entry, which it has where it is read alone, or that it is left out.
  abbrev pub Tells : ℕ → Block → Told → Type 0
  Tells start block (inl e) = IsDecoded profile (block_limits limits) block.bytes (e ∷ [])
  Tells start block (inr out) = IsLeftOut start block out

  -- The bytes are blocks, of each of which this is told, and the last of which has this path.
  pub data AreTold : List ℕ → Option (List ℕ) → List Told → Type 0 where
    none : {bytes : List ℕ} {path : Option (List ℕ)} {told : List Told} → bytes ≡ [] → path ≡ None → told ≡ [] → AreTold bytes path told
    more : {bytes : List ℕ} {path : Option (List ℕ)} {told : List Told} (front : List ℕ) (last : Option (List ℕ)) (before : List Told) (block : Block) (one : Told) →
        AreTold front last before → Follows limits.max_record front last block → Tells (length front) block one →
        bytes ≡ front ++ block.bytes → path ≡ block.path → told ≡ before ++ one ∷ [] → AreTold bytes path told

  -- What is told at the end of a stream of whole lines.
  abbrev pub AreAllTold : List ℕ → List Told → Type 0
  AreAllTold bytes told = IsRecordEnd bytes × ((path : Option (List ℕ)) × AreTold bytes path told)

  -- Nothing is told, or at last that a block is left out.
  abbrev pub EndsLeftOut : List Told → Type 0
  EndsLeftOut told = (told ≡ []) ⊎ ((before : List Told) × (out : LeftOut) × (told ≡ before ++ inr out ∷ []))

  -- The bytes are blocks of which all is told, the last of which is left out, and then what came of a line whose path isn't known.
  pub record IsBehind (bytes : List ℕ) (told : List Told) : Type 0 where
    pub front : List ℕ
    pub path : Option (List ℕ)
    pub blocks : AreTold front path told
    pub left_out : EndsLeftOut told
    pub tail : List ℕ
    pub split : bytes ≡ front ++ tail
    pub is_open : IsOpen limits.max_record tail
    pub ended : (tail ≡ []) ⊎ IsRecordEnd front

  -- The bytes are blocks of which all is told, a block at which nothing is at fault and that nothing follows yet, and then what
  -- came of a line whose path isn't known.
  pub record IsWithin (bytes : List ℕ) (told : List Told) : Type 0 where
    pub front : List ℕ
    pub path : Option (List ℕ)
    pub blocks : AreTold front path told
    pub block : Block
    pub follows : Follows limits.max_record front path block
    pub unstopped : IsSnapUnstopped profile (block_limits limits) block.bytes
    pub tail : List ℕ
    pub split : bytes ≡ front ++ (block.bytes ++ tail)
    pub is_open : IsOpen limits.max_record tail
    pub ended : (tail ≡ []) ⊎ IsRecordEnd block.bytes

  -- What bytes tell of a stream that begins with them: of each block that another follows, or at which something is at fault.
  abbrev pub AreToldBy : List ℕ → List Told → Type 0
  AreToldBy bytes told = IsBehind bytes told ⊎ IsWithin bytes told

  -- ---- Where something is at fault, and what may come

  -- This came of a block before the byte with which it is left out, behind blocks of which this is told.
  pub record IsAtFault (bytes : List ℕ) (before : List Told) (out : LeftOut) (block : List ℕ) (byte : ℕ) : Type 0 where
    pub front : List ℕ
    pub path : Option (List ℕ)
    pub blocks : AreTold front path before
    pub follows : Follows limits.max_record front path (block_with out.path block byte)
    pub left_out : IsLeftOut (length front) (block_with out.path block byte) out
    pub at : out.at ≡ length front + length block
    pub rest : List ℕ
    pub split : bytes ≡ front ++ (block ++ byte ∷ rest)

  -- The bytes end within a line of a block with this path, which is left out: the rest of the line is passed over.
  pub record IsPassed (bytes : List ℕ) (path : Option (List ℕ)) : Type 0 where
    pub told : List Told
    pub blocks : AreTold bytes path told
    pub left_out : EndsLeftOut told
    pub in_line : IsRecordEnd bytes → ⊥

  -- Where no line is passed over, this came of a block at which nothing is at fault and that nothing follows yet, if there is one,
  -- and of a line whose path isn't known.
  abbrev pub IsPresent : List ℕ → List ℕ → Type 0
  IsPresent bytes block = (told : List Told)
      × (((h : IsBehind bytes told) × IsRecordEnd h.front × (block ≡ h.tail)) ⊎ ((h : IsWithin bytes told) × (block ≡ h.block.bytes ++ h.tail)))

  -- The set of the bytes that may come behind these, so that nothing is at fault: any in the rest of a line that is passed over.
  abbrev pub IsWanted : List ℕ → List Bool → Type 0
  IsWanted bytes set = (((path : Option (List ℕ)) × IsPassed bytes path) × ((byte : ℕ) → HasByte set byte ↔ (byte < 256)))
      ⊎ ((block : List ℕ) × IsPresent bytes block × ((byte : ℕ) → HasByte set byte ↔ Next (Snap profile) block byte))

-- What is found by bytes, one after another.
abbrev pub told_entry : Option EntryData → List Told
told_entry None = []
told_entry (Some e) = inl e ∷ []

abbrev pub told_out : Option LeftOut → List Told
told_out None = []
told_out (Some out) = inr out ∷ []

abbrev pub told_by : List Found → List Told
told_by found = flat_map (λ f. told_entry f.entry ++ told_out f.left_out) found
