-- What the state of a plan's records stands for: the bytes that were consumed, and the items that were given.
use Rattle.std.specs.Prelude.{◌≡◌, ℕ, List, [], ◌∷◌, ◌++◌, Option, Some, None, Result, Ok, Err}
use Rattle.cg_text.specs.Texts.{Lacks, Viable}
use Rattle.cg_value.specs.Entry.{IsPath, ItemData, WritesAt}
use Rattle.cg_value.specs.declared.kind.WriteForm.{WriteForm}
use Rattle.cg_value.specs.declared.profile.Profile.{Profile}
use Rattle.cg_line.specs.SettingReads.{SettingReads}
use Rattle.cg_snap.specs.PathBytes.{ArePathBytes}
use Rattle.cg_snap.specs.Plan.{ClosedPlan, Plan, PlanText}
use Rattle.cg_snap.specs.SnapStop.{IsNameless}
use Rattle.cg_snap.specs.declared.plan_records.PlanRecords.{PlanRecords}
use Rattle.cg_snap.specs.declared.plan.CurrentItem.{CurrentItem}
use Rattle.cg_snap.specs.declared.stop.Why.{Why}
use Rattle.cg_snap.specs.declared.stop.Why.TheVariants as whys

-- The path has a name, and a file there is written so.
abbrev pub IsOfWriteKind : Profile → List ℕ → WriteForm → Type 0
IsOfWriteKind profile path kind = (IsNameless path → ⊥) × WritesAt profile path (Some kind)

-- The file at the path is written so in some profile.
pub record IsWritable (path : List ℕ) (kind : WriteForm) : Type 0 where
  pub good : IsPath path
  pub profile : Profile
  pub writes_at : WritesAt profile path (Some kind)

-- The kind of a write to the file that a path names, or why there is none.
abbrev pub IsWriteClass : Profile → List ℕ → Result WriteForm Why → Type 0
IsWriteClass profile path (Ok kind) = IsOfWriteKind profile path kind
IsWriteClass profile path (Err whys.PathByte) = ⊥
IsWriteClass profile path (Err whys.NoName) = IsNameless path
IsWriteClass profile path (Err whys.NotReadable) = ⊥
IsWriteClass profile path (Err whys.NotWritable) = (IsNameless path → ⊥) × WritesAt profile path None
IsWriteClass profile path (Err whys.NoMoreLines) = ⊥
IsWriteClass profile path (Err whys.Line) = ⊥

-- After the items that were given came the front of a path.
pub record AtItemPath (profile : Profile) (begun p : List ℕ) (items : List ItemData) : Type 0 where
  pub given : List ℕ
  pub split : p ≡ given ++ begun
  pub whole : PlanText profile items given
  pub begun_path : ArePathBytes begun

-- After the items that were given came a path, a NUL and the front of a line.
pub record AtItemLine (profile : Profile) (begun : List ℕ) (x : CurrentItem) (p : List ℕ) (items : List ItemData) : Type 0 where
  pub given : List ℕ
  pub line : List ℕ
  pub kind : WriteForm
  pub split : p ≡ given ++ (x.path.items ++ 0 ∷ line)
  pub whole : PlanText profile items given
  pub good : IsPath x.path.items
  pub writes_at : WritesAt profile x.path.items (Some kind)
  pub plain : Lacks 10 line
  pub takes : SettingReads x.reader kind line
  pub nothing_begun : begun ≡ []

-- The bytes p came, and the items were given.
abbrev pub HasConsumedItems : Profile → List ℕ → Option CurrentItem → List ℕ → List ItemData → Type 0
HasConsumedItems profile begun None p items = AtItemPath profile begun p items
HasConsumedItems profile begun (Some x) p items = AtItemLine profile begun x p items

-- The records are of this profile, consumed the bytes p and gave the items; so these are closed, and some plan goes on.
pub record HasTakenItems (s : PlanRecords) (profile : Profile) (p : List ℕ) (items : List ItemData) : Type 0 where
  pub profile_is : s.profile ≡ profile
  pub at : HasConsumedItems profile s.begun.items s.present p items
  pub closed : ClosedPlan profile p items
  pub goes_on : Viable (Plan profile) p

pub items_closed : (s : PlanRecords) (profile : Profile) (p : List ℕ) (items : List ItemData) → HasTakenItems s profile p items → ClosedPlan profile p items
items_closed s profile p items h = h.closed

pub items_go_on : (s : PlanRecords) (profile : Profile) (p : List ℕ) (items : List ItemData) → HasTakenItems s profile p items → Viable (Plan profile) p
items_go_on s profile p items h = h.goes_on
