-- Why a path and a value make no entry, and a path and a setting no item: the first that applies, in this order.
use Rattle.std.specs.Prelude.{◌≡◌, ℕ, List, [], Some, None}
use Rattle.cg_value.specs.Entry.{IsPath, ReadsAt, WritesAt}
use Rattle.cg_value.specs.Files.{Fits}
use Rattle.cg_value.specs.Print.{print_lines}
use Rattle.cg_value.specs.Settings.{FitsWrite}
use Rattle.cg_value.specs.declared.entry.EntryFault.{EntryFault}
use Rattle.cg_value.specs.declared.entry.EntryFault.TheVariants.{BadPath, NotReadable, WrongKind, NoLines}
use Rattle.cg_value.specs.declared.item.ItemFault.{ItemFault}
use Rattle.cg_value.specs.declared.item.ItemFault.TheVariants as item
use Rattle.cg_value.specs.declared.kind.ReadForm.{ReadForm}
use Rattle.cg_value.specs.declared.kind.WriteForm.{WriteForm}
use Rattle.cg_value.specs.declared.profile.Profile.{Profile}
use Rattle.cg_value.specs.declared.setting.Setting.{Setting}
use Rattle.cg_value.specs.declared.value.Value.{Value}

abbrev pub IsEntryFault : Profile → List ℕ → Value → EntryFault → Type 0
IsEntryFault profile path v BadPath = IsPath path → ⊥
IsEntryFault profile path v NotReadable = IsPath path × ReadsAt profile path None
IsEntryFault profile path v WrongKind = IsPath path × (kind : ReadForm) × ReadsAt profile path (Some kind) × (Fits kind v → ⊥)
IsEntryFault profile path v NoLines = IsPath path × (kind : ReadForm) × ReadsAt profile path (Some kind) × Fits kind v × (print_lines v ≡ [])

abbrev pub IsItemFault : Profile → List ℕ → Setting → ItemFault → Type 0
IsItemFault profile path s item.BadPath = IsPath path → ⊥
IsItemFault profile path s item.NotWritable = IsPath path × WritesAt profile path None
IsItemFault profile path s item.WrongKind = IsPath path × (kind : WriteForm) × WritesAt profile path (Some kind) × (FitsWrite kind s → ⊥)
