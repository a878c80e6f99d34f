-- The laws of snapshots and of plans, over their definitions alone.
use Rattle.std.specs.Prelude.{◌≡◌, ◌≢◌, ◌↔◌, ℕ, ◌⊎◌, List, [], ◌∷◌, ◌++◌, length, codes, Result, Ok, Err}
use Rattle.std.specs.List.{AllAdjacentBelow, AllByRecursion, AllZip}
use Rattle.cg_value.specs.Entry.{EntryData, IsEntry, IsItem, ItemData}
use Rattle.cg_value.specs.Path.{IsNameOf}
use Rattle.cg_value.specs.Print.{print_lines, print_setting_of}
use Rattle.cg_value.specs.Records.{records}
use Rattle.cg_value.specs.declared.kind.ReadForm.{ReadForm}
use Rattle.cg_value.specs.declared.kind.ReadForm.TheVariants.{Nested}
use Rattle.cg_value.specs.declared.profile.Profile.{Profile}
use Rattle.cg_value.specs.declared.profile.Profile.TheVariants.{Two, Kernel}
use Rattle.cg_value.specs.declared.value.Value.TheVariants.{Raw}
use Rattle.cg_line.specs.Upgrading.{AreToRead, IsBefore, IsUp, IsUpgraded}
use Rattle.cg_line.specs.declared.upgrading.UpgradeFault.{UpgradeFault}
use Rattle.cg_line.specs.declared.upgrading.UpgradeFault.TheVariants.{OutOfMemory}
use Rattle.cg_snap.specs.Begun.{IsBegun}
use Rattle.cg_snap.specs.Closed.{Closed}
use Rattle.cg_snap.specs.Plan.{ClosedPlan, PlanText}
use Rattle.cg_snap.specs.Snap.{SnapText}

-- The records of the entries' canonical lines.
abbrev pub print_entries : List EntryData → List ℕ
print_entries [] = []
print_entries (e ∷ es) = records e.path (print_lines e.value) ++ print_entries es

-- A text is the snapshot of one list of entries.
abbrev pub OneList : Type 0
OneList = (profile : Profile) (es fs : List EntryData) (text : List ℕ) → SnapText profile es text → SnapText profile fs text → es ≡ fs

-- And it is that list printed.
abbrev pub SnapIsPrint : Type 0
SnapIsPrint = (profile : Profile) (es : List EntryData) (text : List ℕ) → SnapText profile es text → text ≡ print_entries es

-- All are entries of the profile.
abbrev pub AreEntriesOf : Profile → List EntryData → Type 0
AreEntriesOf profile es = AllByRecursion (λ e. IsEntry profile e.path e.value) es

-- No entry below the place has the path of the one before it.
abbrev pub AreApart : List EntryData → ℕ → Type 0
AreApart es high = AllAdjacentBelow (λ e f. f.path ≢ e.path) es high

-- Entries of a profile, printed, are a snapshot of these entries where no two adjacent ones have the same path.
abbrev pub EntriesPrinted : Type 0
EntriesPrinted = (profile : Profile) (es : List EntryData) → AreEntriesOf profile es → AreApart es (length es) → SnapText profile es (print_entries es)

-- And only such entries have a snapshot.
abbrev pub SnapIsOfEntries : Type 0
SnapIsOfEntries = (profile : Profile) (es : List EntryData) (text : List ℕ) → SnapText profile es text → AreEntriesOf profile es × AreApart es (length es)

-- Bytes close one list of entries.
abbrev pub ClosedOnce : Type 0
ClosedOnce = (profile : Profile) (bytes : List ℕ) (es fs : List EntryData) → Closed profile bytes es → Closed profile bytes fs → es ≡ fs

-- Two ways to close bytes by the same entries have the same bytes of these, the same lines of the present entry and the same
-- record begun after them; and the same path, where the present entry has a line.
pub record AreOneClosing {profile : Profile} {bytes : List ℕ} {es : List EntryData} (c d : Closed profile bytes es) : Type 0 where
  pub given : c.given ≡ d.given
  pub lines : c.of_path.lines ≡ d.of_path.lines
  pub path : c.of_path.lines ≢ [] → c.path ≡ d.path
  pub begun : c.of_path.begun ≡ d.of_path.begun

abbrev pub OneClosing : Type 0
OneClosing = (profile : Profile) (bytes : List ℕ) (es : List EntryData) (c d : Closed profile bytes es) → AreOneClosing c d

-- One record is begun.
abbrev pub OneBegun : Type 0
OneBegun = (bytes r s : List ℕ) → IsBegun bytes r → IsBegun bytes s → r ≡ s

-- ---- Plans

-- The items' canonical records.
abbrev pub print_items : List ItemData → List ℕ
print_items [] = []
print_items (item ∷ items) = item.path ++ 0 ∷ (print_setting_of item.setting ++ print_items items)

-- All are items of the profile.
abbrev pub AreItemsOf : Profile → List ItemData → Type 0
AreItemsOf profile items = AllByRecursion (λ item. IsItem profile item.path item.setting) items

-- A text is the plan of one list of items.
abbrev pub OnePlan : Type 0
OnePlan = (profile : Profile) (xs ys : List ItemData) (text : List ℕ) → PlanText profile xs text → PlanText profile ys text → xs ≡ ys

-- Items of a profile, printed, are a plan of these items.
abbrev pub ItemsPrinted : Type 0
ItemsPrinted = (profile : Profile) (items : List ItemData) → AreItemsOf profile items → PlanText profile items (print_items items)

-- And only items of the profile have a plan.
abbrev pub PlanIsOfItems : Type 0
PlanIsOfItems = (profile : Profile) (items : List ItemData) (text : List ℕ) → PlanText profile items text → AreItemsOf profile items

-- Bytes close one list of items.
abbrev pub ClosedPlanOnce : Type 0
ClosedPlanOnce = (profile : Profile) (bytes : List ℕ) (xs ys : List ItemData) → ClosedPlan profile bytes xs → ClosedPlan profile bytes ys → xs ≡ ys

-- ---- Profiles

-- Where a text is a snapshot of two profiles, the entries of the later one are those of the earlier one, upgraded.
abbrev pub TwoProfiles : Type 0
TwoProfiles = (from to : Profile) → IsBefore from to → (es fs : List EntryData) (text : List ℕ) → SnapText from es text → SnapText to fs text → AllZip (IsUp to) es fs

-- And so are the entries that bytes close in the later one.
abbrev pub TwoClosed : Type 0
TwoClosed = (from to : Profile) → IsBefore from to → (bytes : List ℕ) (es fs : List EntryData) → Closed from bytes es → Closed to bytes fs → AllZip (IsUp to) es fs

-- Where an entry has a form in a profile, it is answered, or memory was refused.
abbrev pub AnswersUp : Type 0
AnswersUp = (to : Profile) (e f : EntryData) (answer : Result EntryData UpgradeFault) → IsUp to e f → IsUpgraded to e answer → (answer ≡ Ok f) ⊎ (answer ≡ Err OutOfMemory)

-- What the second profile reads anew are raw lines of memory.numa_stat, as nested.
abbrev pub OnlyNuma : Type 0
OnlyNuma = (e : EntryData) (kind : ReadForm) (lines : List (List ℕ)) → AreToRead Two e kind lines ↔ (IsNameOf e.path (codes "memory.numa_stat") × (kind ≡ Nested) × (e.value ≡ Raw lines))

-- So it is with the snapshots of the second profile and of that of the kernel.
abbrev pub KernelProfile : Type 0
KernelProfile = (es fs : List EntryData) (text : List ℕ) → SnapText Two es text → SnapText Kernel fs text → AllZip (IsUp Kernel) es fs

-- What is upgraded by way of a profile to a later one is upgraded to that at once.
abbrev pub ByTheWay : Type 0
ByTheWay = (by to : Profile) → IsBefore by to → (e f g : EntryData) → IsUp by e f → IsUp to f g → IsUp to e g
