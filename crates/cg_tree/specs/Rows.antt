-- Hierarchies by example: entries with what they break.
use Rattle.std.specs.Prelude.{◌≡◌, ℕ, List, [], ◌∷◌, codes}
use Rattle.std.specs.List.{AllZip}
use Rattle.cg_value.specs.Entry.{EntryData}
use Rattle.cg_value.specs.declared.value.GroupMode.TheVariants as mode
use Rattle.cg_value.specs.declared.value.Value.{Value}
use Rattle.cg_value.specs.declared.value.Value.TheVariants as value
use Rattle.cg_tree.specs.Find.{find}
use Rattle.cg_tree.specs.declared.finding.Finding.{Finding}
use Rattle.cg_tree.specs.declared.finding.Rule.{Rule}
use Rattle.cg_tree.specs.declared.finding.Rule.TheVariants.{C1, C2, C3}

-- The entry has this path and this value.
abbrev pub IsOf : List ℕ × Value → EntryData → Type 0
IsOf x e = (e.path ≡ x.0) × (e.value ≡ x.1)

-- Whatever entries have these paths and values, this is all that they break.
abbrev pub Breaks : List (List ℕ × Value) → List Finding → Type 0
Breaks parts found = (es : List EntryData) → AllZip IsOf parts es → find es ≡ found

abbrev pub finding : Rule → ℕ → ℕ → ℕ → Finding
finding rule at other word = record { rule = rule; at = at; other = other; word = word }

abbrev pub cpu : Value
cpu = value.Words (codes "cpu" ∷ [])

abbrev pub cpu_io : Value
cpu_io = value.Words (codes "cpu" ∷ codes "io" ∷ [])

abbrev pub one_process : Value
one_process = value.Numbers (7 ∷ [])

abbrev pub NoEntries : Type 0
NoEntries = Breaks [] []

-- The parent hands out no io, and the group has a process.
abbrev pub broken_by_two : List (List ℕ × Value)
broken_by_two = (codes "r/cgroup.controllers", cpu_io) ∷ (codes "r/cgroup.subtree_control", cpu)
    ∷ (codes "r/a/cgroup.type", value.Mode mode.Domain) ∷ (codes "r/a/cgroup.procs", one_process) ∷ (codes "r/a/cgroup.subtree_control", cpu_io) ∷ []

abbrev pub BrokenByTwo : Type 0
BrokenByTwo = Breaks broken_by_two (finding C2 4 1 1 ∷ finding C3 4 3 1 ∷ [])

-- The root group may have processes.
abbrev pub root_with_processes : List (List ℕ × Value)
root_with_processes = (codes "cgroup.procs", one_process) ∷ (codes "cgroup.subtree_control", cpu_io) ∷ (codes "cgroup.controllers", cpu_io) ∷ []

abbrev pub RootWithProcesses : Type 0
RootWithProcesses = Breaks root_with_processes []

-- The group itself has no io.
abbrev pub not_available : List (List ℕ × Value)
not_available = (codes "r/cgroup.controllers", cpu) ∷ (codes "r/cgroup.subtree_control", cpu_io) ∷ []

abbrev pub NotAvailable : Type 0
NotAvailable = Breaks not_available (finding C1 1 0 1 ∷ [])

-- The root of a threaded subtree is a domain, and one that isn't valid is none.
abbrev pub typed : Value → List (List ℕ × Value)
typed v = (codes "a/cgroup.subtree_control", cpu_io) ∷ (codes "a/cgroup.procs", one_process) ∷ (codes "a/cgroup.type", v) ∷ []

abbrev pub ThreadedDomain : Type 0
ThreadedDomain = Breaks (typed (value.Mode mode.DomainThreaded)) (finding C3 0 1 1 ∷ [])

abbrev pub DomainInvalid : Type 0
DomainInvalid = Breaks (typed (value.Mode mode.DomainInvalid)) []

-- Above `/` is the directory of bare names, and nothing above that.
abbrev pub root_beside_bare : List (List ℕ × Value)
root_beside_bare = (codes "cgroup.subtree_control", cpu) ∷ (codes "/cgroup.subtree_control", cpu_io) ∷ []

abbrev pub RootBesideBare : Type 0
RootBesideBare = Breaks root_beside_bare (finding C2 1 0 1 ∷ [])

-- Each of two files of one path is compared.
abbrev pub twice_the_same : List (List ℕ × Value)
twice_the_same = (codes "cgroup.controllers", cpu) ∷ (codes "cgroup.subtree_control", cpu_io) ∷ (codes "cgroup.controllers", value.Words []) ∷ []

abbrev pub TwiceTheSame : Type 0
TwiceTheSame = Breaks twice_the_same (finding C1 1 0 1 ∷ finding C1 1 2 0 ∷ finding C1 1 2 1 ∷ [])
