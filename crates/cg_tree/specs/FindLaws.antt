-- Look-ups in files that are sorted find what is found in those that aren't.
use Rattle.std.proofs.Common.{◌≡◌, ℕ, ◌+◌, Bool, true, false, ◌||◌, Option, Some, None, List, [], ◌∷◌, ◌++◌, not, codes, cond, length, map, nat_eq, option_map, is_some, take, refl}
use Rattle.std.specs.Prelude.{if◌then◌else◌}
use Rattle.std.specs.Cmp.Lexicographic.{pointwise}
use Rattle.std.specs.List.{flat_map, list_any}
use Rattle.cg_index.specs.Keyed.{place_among}
use Rattle.cg_value.specs.Entry.{EntryData}
use Rattle.cg_tree.specs.Directory.{directory_of}
use Rattle.cg_tree.specs.File.{FileData}
use Rattle.cg_tree.specs.Files.{named, within, above}
use Rattle.cg_tree.specs.Find.{find_at, allows, finding, is_among, lacking, is_domain}
use Rattle.cg_tree.specs.Picked.{picked}
use Rattle.cg_tree.specs.declared.find.Hierarchy.{Hierarchy}
use Rattle.cg_tree.specs.declared.finding.Finding.{Finding}
use Rattle.cg_tree.specs.declared.finding.Rule.{Rule}
use Rattle.cg_tree.specs.declared.finding.Rule.TheVariants.{C1, C2, C3}

-- In each directory are the files of the entries, in order.
pub record IsHierarchyOf (es : List EntryData) (h : Hierarchy) : Type 0 where
  pub controllers : (d : List ℕ) → within d h.controllers ≡ within d (named (codes "cgroup.controllers") es)
  pub controls : (d : List ℕ) → within d h.controls ≡ within d (named (codes "cgroup.subtree_control") es)
  pub processes : (d : List ℕ) → within d h.processes ≡ within d (named (codes "cgroup.procs") es)
  pub types : (d : List ℕ) → within d h.types ≡ within d (named (codes "cgroup.type") es)

-- What a control breaks, as it is looked up.
abbrev pub looked_up : Hierarchy → FileData → List Finding
looked_up h control = flat_map (lacking C1 control) (within control.directory h.controllers)
    ++ flat_map (lacking C2 control) (above control.directory h.controls)
    ++ (if list_any is_domain (within control.directory h.types) then flat_map (lacking C3 control) (within control.directory h.processes) else [])

-- What some of the words lack.
abbrev pub lacked : Rule → FileData → FileData → List (List ℕ) → List Finding
lacked rule control f ws = picked (λ p. not (allows rule f p.1)) (finding rule control f) ws

above_same : (fs gs : List FileData) → ((d : List ℕ) → within d fs ≡ within d gs) → (d : List ℕ) → above d fs ≡ above d gs
above_same fs gs same [] = refl
above_same fs gs same (b ∷ bs) = same (directory_of (take (length bs) (b ∷ bs)))

pub looked_up_is : (es : List EntryData) (h : Hierarchy) → IsHierarchyOf es h → (c : FileData) → looked_up h c ≡ find_at es c
looked_up_is es h same c =
    rw (same.controllers c.directory, same.types c.directory, same.processes c.directory, above_same h.controls (named (codes "cgroup.subtree_control") es) same.controls c.directory) refl

pub flat_map_same : {X A : Type 0} (f g : X → List A) → ((x : X) → f x ≡ g x) → (xs : List X) → flat_map f xs ≡ flat_map g xs
flat_map_same f g same [] = refl
flat_map_same f g same (x ∷ xs) = rw (same x, flat_map_same f g same xs) refl

-- A word has a place among words exactly where it is one of them.
pub found_is : (word : List ℕ) (ws : List (List ℕ)) → is_some (place_among word (map (λ w. w) ws)) ≡ is_among word ws
found_is word [] = refl
found_is word (w ∷ ws) =
    let cases : (b : Bool) (o : Option ℕ) (m : Bool) → is_some o ≡ m → is_some (cond b (Some 0) (option_map (λ n. n + 1) o)) ≡ (b || m) =
    λ b o m e. elim b as (λ v. is_some (cond v (Some 0) (option_map (λ n. n + 1) o)) ≡ (v || m)) [
      | true ↦ refl
      | false ↦ elim o as (λ u. is_some u ≡ m → is_some (option_map (λ n. n + 1) u) ≡ m) [ None ↦ λ h. h | Some k ↦ λ h. h ] e
    ] in
    cases (pointwise nat_eq word w) (place_among word (map (λ v. v) ws)) (is_among word ws) (found_is word ws)
