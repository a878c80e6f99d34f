-- What a plan of writes is: a record for each item, the path, a NUL, the line to be written and a newline, as a snapshot has for a
-- line that is read (grep manual, "-Z"; cgroup-v2.rst, "Interface Files", for the lines).
use Rattle.std.specs.Prelude.{◌≡◌, ℕ, List, [], ◌∷◌, ◌++◌, Some}
use Rattle.cg_text.specs.Texts.{Lacks, TextOf}
use Rattle.cg_value.specs.Entry.{ItemData, WritesAt}
use Rattle.cg_value.specs.WriteLine.{WriteLine}
use Rattle.cg_value.specs.declared.kind.WriteForm.{WriteForm}
use Rattle.cg_value.specs.declared.profile.Profile.{Profile}

-- The line spells the item's setting as a write to the file at the item's path. (The path of an item is good.)
pub record IsItemLine (profile : Profile) (item : ItemData) (line : List ℕ) : Type 0 where
  pub kind : WriteForm
  pub writes : WritesAt profile item.path (Some kind)
  pub spelled : WriteLine kind item.setting line

-- The text is the plan of these items: a record of each, in order. Adjacent paths may be the same.
abbrev pub PlanText : Profile → List ItemData → List ℕ → Type 0
PlanText profile [] text = text ≡ []
PlanText profile (item ∷ items) text = (line : List ℕ) × (rest : List ℕ)
    × IsItemLine profile item line × (text ≡ item.path ++ 0 ∷ (line ++ 10 ∷ rest)) × PlanText profile items rest

-- The plans of a profile.
abbrev pub Plan : Profile → List ℕ → Type 0
Plan profile = TextOf (λ text items. PlanText profile items text)

-- The items of the whole records of the bytes; what comes after these is begun.
pub record ClosedPlan (profile : Profile) (bytes : List ℕ) (items : List ItemData) : Type 0 where
  pub given : List ℕ
  pub begun : List ℕ
  pub split : bytes ≡ given ++ begun
  pub whole : PlanText profile items given
  pub plain : Lacks 10 begun
