-- Entries that lie one behind another in a piece of a snapshot that is gone on with.
use Rattle.std.specs.Prelude.{◌≡◌, ◌≢◌, ℕ, ◌<◌, ◌⊎◌, List, [], ◌∷◌, ◌++◌, drop, map, take}
use Rattle.cg_value.specs.Entry.{EntryData}
use Rattle.cg_value.specs.declared.profile.Profile.{Profile}
use Rattle.cg_snap.specs.GoingOnDecoder.{GoingOnDecoder}
use Rattle.cg_snap.specs.GoingOnEntry.{found_entry}
use Rattle.cg_snap.specs.declared.going_on.Found.{Found}
use Rattle.cg_snap.specs.declared.limits.Limits.{Limits}
use Rattle.cg_run.specs.Decoded.{AreFollowed}
use Rattle.cg_run.specs.GoneOnReader.{HasTakenOn}

-- The decoder took so many bytes of the piece, of which those up to the last that closes an entry are lines of entries behind a path with
-- its NUL, and found these and nothing more.
pub record HavePassed (d : GoingOnDecoder) (form : Profile × Limits) (p : List ℕ) (found : List Found) (next piece : List ℕ) (used closed : ℕ) : Type 0 where
  pub entries : List EntryData
  pub taken : HasTakenOn d form (p ++ take used piece) (found ++ map found_entry entries)
  pub some : 0 < closed → entries ≢ []
  pub none : closed ≡ 0 → entries ≡ []
  pub followed : AreFollowed ((next ++ 0 ∷ []) ++ take closed piece) [] entries

-- The bytes from begin to end are the lines of entries, and then the next path with its NUL; or there are none, and no entry.
abbrev pub AreRun : List ℕ → List EntryData → Type 0
AreRun bytes entries = ((bytes ≡ []) × (entries ≡ [])) ⊎ ((entries ≢ []) × AreFollowed bytes [] entries)

-- The decoder took so many bytes of the piece, and those from begin to end are of the entries that it found.
pub record IsRun (d : GoingOnDecoder) (form : Profile × Limits) (p : List ℕ) (found : List Found) (piece : List ℕ) (begin end used : ℕ) : Type 0 where
  pub entries : List EntryData
  pub taken : HasTakenOn d form (p ++ take used piece) (found ++ map found_entry entries)
  pub run : AreRun (drop begin (take end piece)) entries
