-- How far a decoder came in a piece, and which entries the piece closes.
use Rattle.std.specs.Prelude.{◌≡◌, ◌≢◌, ℕ, ◌+◌, ◌<◌, ◌⊎◌, List, [], ◌∷◌, ◌++◌, length, take}
use Rattle.std.specs.List.{AllByRecursion}
use Rattle.cg_text.specs.Texts.{Lacks}
use Rattle.cg_value.specs.Entry.{EntryData, IsPath}
use Rattle.cg_value.specs.Print.{print_lines}
use Rattle.cg_value.specs.declared.profile.Profile.{Profile}
use Rattle.cg_snap.specs.Closed.{Closed}
use Rattle.cg_snap.specs.Decode.{HasTaken}
use Rattle.cg_snap.specs.Laws.{print_entries}
use Rattle.cg_snap.specs.SnapStop.{IsSnapUnstopped, SnapStopOf}
use Rattle.cg_snap.specs.Stop.{place_of}
use Rattle.cg_snap.specs.Decoder.{SnapshotDecoder}
use Rattle.cg_snap.specs.declared.event.Event.{Event}
use Rattle.cg_snap.specs.declared.event.Event.TheVariants as events
use Rattle.cg_snap.specs.declared.limits.Limits.{Limits}
use Rattle.cg_run.specs.Streaming.{IsByteStop}

-- No line of the entries has a NUL.
abbrev pub ArePlain : List EntryData → Type 0
ArePlain es = AllByRecursion (λ e. AllByRecursion (Lacks 0) (print_lines e.value)) es

-- The bytes are those of the entries and of more entries, and then the next path with its NUL.
pub record AreFollowed (bytes : List ℕ) (es more : List EntryData) : Type 0 where
  pub plain : ArePlain more
  pub next : List ℕ
  pub good : IsPath next
  pub split : bytes ≡ print_entries es ++ (print_entries more ++ (next ++ 0 ∷ []))

-- So it is, and nothing stops the bytes, which close the entries.
pub record HaveClosed (profile : Profile) (limits : Limits) (bytes : List ℕ) (es more : List EntryData) : Type 0 where
  pub unstopped : IsSnapUnstopped profile limits bytes
  pub closed : Closed profile bytes (es ++ more)
  pub some : more ≢ []
  pub followed : AreFollowed bytes es more

-- The first bytes of a piece, so many of them, close more entries; or none do.
abbrev pub CloseMore : Profile → Limits → List ℕ → List EntryData → List ℕ → ℕ → List EntryData → Type 0
CloseMore profile limits p es piece closed more = ((closed ≡ 0) × (more ≡ [])) ⊎ ((0 < closed) × HaveClosed profile limits (p ++ take closed piece) es more)

-- The decoder consumed so many bytes of the piece, and gave entries that they close.
pub record HasDecoded (d : SnapshotDecoder) (profile : Profile) (limits : Limits) (p : List ℕ) (es : List EntryData) (piece : List ℕ) (used closed : ℕ) : Type 0 where
  pub more : List EntryData
  pub close : CloseMore profile limits p es piece closed more
  pub taken : HasTaken d profile limits (p ++ take used piece) (es ++ more)

-- What it came to behind the entries, of which none is given on.
abbrev pub LeftBy : SnapshotDecoder → Profile → Limits → List ℕ → List EntryData → List ℕ → ℕ → Event (Unit {0}) → Type 0
LeftBy d profile limits p all piece used events.NeedMore = HasTaken d profile limits (p ++ piece) all × (used ≡ length piece)
LeftBy d profile limits p all piece used (events.Given u) = ⊥
LeftBy d profile limits p all piece used (events.Stopped s) =
    IsByteStop s × SnapStopOf profile limits (p ++ piece) s × (place_of s ≡ length p + used) × Closed profile (p ++ take used piece) all
LeftBy d profile limits p all piece used events.OutOfMemory =
    (used < length piece) × IsSnapUnstopped profile limits (p ++ take used piece) × IsSnapUnstopped profile limits (p ++ take (used + 1) piece)
    × Closed profile (p ++ take used piece) all

pub record DecodedIs (d : SnapshotDecoder) (profile : Profile) (limits : Limits) (p : List ℕ) (es : List EntryData) (piece : List ℕ) (used closed : ℕ) (what : Event (Unit {0})) : Type 0 where
  pub more : List EntryData
  pub close : CloseMore profile limits p es piece closed more
  pub left : LeftBy d profile limits p (es ++ more) piece used what
