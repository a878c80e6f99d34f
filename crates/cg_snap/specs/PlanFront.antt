-- What stands in front of some bytes of a plan: a line, or the line of an item.
use Rattle.std.specs.Prelude.{◌≡◌, ℕ, ◌≤◌, List, [], ◌∷◌, ◌++◌, length, take}
use Rattle.cg_value.specs.Entry.{ItemData}
use Rattle.cg_value.specs.Settings.{WriteText}
use Rattle.cg_value.specs.declared.kind.WriteForm.{WriteForm}
use Rattle.cg_value.specs.declared.profile.Profile.{Profile}
use Rattle.cg_value.specs.declared.setting.Setting.{Setting}
use Rattle.cg_snap.specs.Plan.{IsItemLine}

-- The bytes begin with a write of this kind with the setting, which has so many bytes.
abbrev pub IsSettingFront : WriteForm → List ℕ → Setting → ℕ → Type 0
IsSettingFront kind bytes s used = (used ≤ length bytes) × WriteText kind s (take used bytes)

-- The bytes begin with a line, and its newline, that spells the item's setting at the path: so many bytes.
abbrev pub IsItemBehind : Profile → List ℕ → List ℕ → ItemData → ℕ → Type 0
IsItemBehind profile path bytes item used =
    (item.path ≡ path) × (used ≤ length bytes) × ((line : List ℕ) × IsItemLine profile item line × (take used bytes ≡ line ++ 10 ∷ []))
