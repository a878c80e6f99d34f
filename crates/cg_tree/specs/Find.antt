-- What a hierarchy breaks of the rules for delegation (cgroup-v2.rst, "Controlling Controllers" and "Threads").
use Rattle.std.specs.Prelude.{ℕ, Bool, true, false, not, List, [], ◌∷◌, ◌++◌, codes, if◌then◌else◌}
use Rattle.std.specs.List.{flat_map, list_any}
use Rattle.std.specs.Str.{bytes_eq}
use Rattle.cg_value.specs.Entry.{EntryData}
use Rattle.cg_value.specs.declared.value.GroupMode.TheVariants as mode
use Rattle.cg_value.specs.declared.value.Value.{Value}
use Rattle.cg_value.specs.declared.value.Value.TheVariants as value
use Rattle.cg_tree.specs.File.{FileData}
use Rattle.cg_tree.specs.Files.{named, within, above}
use Rattle.cg_tree.specs.Picked.{picked}
use Rattle.cg_tree.specs.declared.finding.Finding.{Finding}
use Rattle.cg_tree.specs.declared.finding.Rule.{Rule}
use Rattle.cg_tree.specs.declared.finding.Rule.TheVariants.{C1, C2, C3}

-- The names of controllers that a file holds.
abbrev pub words_of : Value → List (List ℕ)
words_of (value.Words ws) = ws
words_of _ = []

abbrev pub is_among : List ℕ → List (List ℕ) → Bool
is_among word ws = list_any (bytes_eq word) ws

-- The controllers that a group with processes may have too ("Threads").
abbrev pub threaded : List (List ℕ)
threaded = codes "cpu" ∷ codes "cpuset" ∷ codes "perf_event" ∷ codes "pids" ∷ []

-- Whether the rule lets the word stand beside the file.
abbrev pub allows : Rule → FileData → List ℕ → Bool
allows C1 f word = is_among word (words_of f.value)
allows C2 f word = is_among word (words_of f.value)
allows C3 f word = is_among word threaded

abbrev pub finding : Rule → FileData → FileData → ℕ × List ℕ → Finding
finding rule control f p = record { rule = rule; at = control.place; other = f.place; word = p.0 }

-- A finding for each word of the control that the rule doesn't let stand beside the file.
abbrev pub lacking : Rule → FileData → FileData → List Finding
lacking rule control f = picked (λ p. not (allows rule f p.1)) (finding rule control f) (words_of control.value)

-- The file is the type of a group that is a domain, and a valid one.
abbrev pub is_domain_value : Value → Bool
is_domain_value (value.Mode mode.Domain) = true
is_domain_value (value.Mode mode.DomainThreaded) = true
is_domain_value _ = false

abbrev pub is_domain : FileData → Bool
is_domain f = is_domain_value f.value

-- What a cgroup.subtree_control breaks, rule by rule: with the cgroup.controllers of its group ("Enabling and Disabling"); with
-- the cgroup.subtree_control of the group above ("Top-down Constraint"); and, where its group is a domain, with the cgroup.procs of
-- its group ("No Internal Process Constraint"). The root group has no cgroup.type, and the last rule doesn't bind it.
abbrev pub find_at : List EntryData → FileData → List Finding
find_at es control = flat_map (lacking C1 control) (within control.directory (named (codes "cgroup.controllers") es))
    ++ flat_map (lacking C2 control) (above control.directory (named (codes "cgroup.subtree_control") es))
    ++ (if list_any is_domain (within control.directory (named (codes "cgroup.type") es))
    then flat_map (lacking C3 control) (within control.directory (named (codes "cgroup.procs") es))
    else [])

-- All that the entries break.
abbrev pub find : List EntryData → List Finding
find es = flat_map (find_at es) (named (codes "cgroup.subtree_control") es)
