-- The examples of hierarchies hold: each is computed.
use Rattle.std.proofs.Common.{◌≡◌, ℕ, List, [], ◌∷◌, refl, sym, subst}
use Rattle.std.specs.List.{AllZip}
use Rattle.cg_value.specs.Entry.{EntryData, IsSomeEntry}
use Rattle.cg_value.specs.declared.value.GroupMode.TheVariants as mode
use Rattle.cg_value.specs.declared.value.Value.{Value}
use Rattle.cg_value.specs.declared.value.Value.TheVariants as value
use Rattle.cg_tree.specs.Find.{find}
use Rattle.cg_tree.specs.Rows.{IsOf, NoEntries, BrokenByTwo, RootWithProcesses, NotAvailable, ThreadedDomain, DomainInvalid, RootBesideBare, TwiceTheSame}
use Rattle.cg_tree.specs.Rows.{finding, broken_by_two, root_with_processes, not_available, typed, root_beside_bare, twice_the_same}
use Rattle.cg_tree.specs.declared.finding.Rule.TheVariants.{C1, C2, C3}

abbrev made : (path : List ℕ) (v : Value) → IsSomeEntry path v → EntryData
made path v fits = record { path = path; value = v; fits = fits }

-- What holds of the entry that is made of its parts holds of the entry.
of_parts : (P : EntryData → Type 0) (x : List ℕ × Value) (e : EntryData) → IsOf x e → ((f : IsSomeEntry (x.0) (x.1)) → P (made (x.0) (x.1) f)) → P e
of_parts P x e h q =
    let by_path : (f : IsSomeEntry e.path (x.1)) → P (made e.path (x.1) f) = subst (λ p. (f : IsSomeEntry p (x.1)) → P (made p (x.1) f)) (sym h.0) q in
    let by_value : (f : IsSomeEntry e.path e.value) → P (made e.path e.value f) = subst (λ v. (f : IsSomeEntry e.path v) → P (made e.path v f)) (sym h.1) by_path in
    by_value e.fits

-- It holds of all entries that are made of these parts.
abbrev ForMade : List (List ℕ × Value) → (List EntryData → Type 0) → Type 0
ForMade [] P = P []
ForMade (x ∷ xs) P = (f : IsSomeEntry (x.0) (x.1)) → ForMade xs (λ es. P (made (x.0) (x.1) f ∷ es))

for_made : (parts : List (List ℕ × Value)) (P : List EntryData → Type 0) → ForMade parts P → (es : List EntryData) → AllZip IsOf parts es → P es
for_made [] P q [] h = q
for_made [] P q (e ∷ es) h = absurd h
for_made (x ∷ xs) P q [] h = absurd h
for_made (x ∷ xs) P q (e ∷ es) h = for_made xs (λ t. P (e ∷ t)) (of_parts (λ y. ForMade xs (λ t. P (y ∷ t))) x e h.0 q) es h.1

pub no_entries : NoEntries
no_entries = for_made [] (λ es. find es ≡ []) refl

pub broken_by_two_rules : BrokenByTwo
broken_by_two_rules = for_made broken_by_two (λ es. find es ≡ finding C2 4 1 1 ∷ finding C3 4 3 1 ∷ []) (λ a b c d e. refl)

pub root_may : RootWithProcesses
root_may = for_made root_with_processes (λ es. find es ≡ []) (λ a b c. refl)

pub not_there : NotAvailable
not_there = for_made not_available (λ es. find es ≡ finding C1 1 0 1 ∷ []) (λ a b. refl)

pub threaded_root : ThreadedDomain
threaded_root = for_made (typed (value.Mode mode.DomainThreaded)) (λ es. find es ≡ finding C3 0 1 1 ∷ []) (λ a b c. refl)

pub no_valid_domain : DomainInvalid
no_valid_domain = for_made (typed (value.Mode mode.DomainInvalid)) (λ es. find es ≡ []) (λ a b c. refl)

pub bare_above_root : RootBesideBare
bare_above_root = for_made root_beside_bare (λ es. find es ≡ finding C2 1 0 1 ∷ []) (λ a b. refl)

pub with_each : TwiceTheSame
with_each = for_made twice_the_same (λ es. find es ≡ finding C1 1 0 1 ∷ finding C1 1 2 0 ∷ finding C1 1 2 1 ∷ []) (λ a b c. refl)
