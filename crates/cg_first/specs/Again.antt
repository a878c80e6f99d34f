-- What comes of taking the first entry of what is left, again and again.
use Rattle.std.specs.Prelude.{◌≡◌, ◌++◌, ℕ, Bool, true, List, [], ◌∷◌, drop}
use Rattle.cg_value.specs.Entry.{EntryData}
use Rattle.cg_value.specs.declared.profile.Profile.{Profile}
use Rattle.cg_snap.specs.Snap.{Snap, SnapText}
use Rattle.cg_first.specs.First.{IsFirstEntry}

-- The entry was told of so many bytes that were seen of a stream; that it is at its end was said only of all of it.
pub record IsTold (profile : Profile) (stream : List ℕ) (e : EntryData) (taken : ℕ) : Type 0 where
  pub seen : List ℕ
  pub later : List ℕ
  pub is_end : Bool
  pub split : stream ≡ seen ++ later
  pub all : is_end ≡ true → later ≡ []
  pub first : IsFirstEntry profile seen is_end e taken

-- The entries were told one after another, each of what the ones before it left of the stream; and this is left of it.
abbrev pub AreTold : Profile → List EntryData → List ℕ → List ℕ → Type 0
AreTold profile [] stream left = stream ≡ left
AreTold profile (e ∷ es) stream left = (taken : ℕ) × IsTold profile stream e taken × AreTold profile es (drop taken stream) left

-- Where nothing is left, the stream is the snapshot of the entries that were told.
abbrev pub ToldAreAll : Type 0
ToldAreAll = (profile : Profile) (es : List EntryData) (stream : List ℕ) → AreTold profile es stream [] → SnapText profile es stream

-- The entries of a snapshot are those that were told, and then those of what is left.
abbrev pub ToldAreFirst : Type 0
ToldAreFirst = (profile : Profile) (es fs : List EntryData) (stream left : List ℕ) → AreTold profile es stream left → SnapText profile fs stream →
    (gs : List EntryData) × (fs ≡ es ++ gs) × SnapText profile gs left

-- So where what is left is no snapshot, the stream is none.
abbrev pub NoneLeft : Type 0
NoneLeft = (profile : Profile) (es : List EntryData) (stream left : List ℕ) → AreTold profile es stream left → (Snap profile left → ⊥) → Snap profile stream → ⊥
