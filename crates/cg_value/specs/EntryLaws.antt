-- What contracts see of entries and items: an entry is told by its parts, and these have what an entry's must have.
use Rattle.std.proofs.Common.{◌≡◌, ◌≢◌, ℕ, ◌-◌, ◌<◌, List, [], length, get_or, sym, ◌∙◌, ap, subst, arith}
use Rattle.std.proofs.Math.Logic.{∥∥₁_elim, ∥∥₁_prop}
use Rattle.std.proofs.lemmas.List.{get_or_push, length_push}
use Rattle.std.specs.Coded.{le_prop}
use Rattle.cg_value.specs.Entry.{EntryData, IsPath, IsSomeEntry, ItemData}
use Rattle.cg_value.specs.PathLaws.{path_of}
use Rattle.cg_value.specs.Print.{print_lines}
use Rattle.cg_value.specs.declared.value.Value.{Value}

abbrev made : (path : List ℕ) (v : Value) → IsSomeEntry path v → EntryData
made path v fits = record { path = path; value = v; fits = fits }

one_fact : (path : List ℕ) (v : Value) (a b : IsSomeEntry path v) → made path v a ≡ made path v b
one_fact path v a b = ap (λ t. made path v t) (∥∥₁_prop a b)

same_path : (p q : List ℕ) → p ≡ q → (v : Value) (a : IsSomeEntry p v) (b : IsSomeEntry q v) → made p v a ≡ made q v b
same_path p q e v = subst (λ z. (a : IsSomeEntry p v) (b : IsSomeEntry z v) → made p v a ≡ made z v b) e (one_fact p v)

-- Entries of the same path and value are the same.
pub same_entry : (x y : EntryData) → x.path ≡ y.path → x.value ≡ y.value → x ≡ y
same_entry x y e g =
    subst (λ w. (b : IsSomeEntry y.path w) → x ≡ made y.path w b) g (same_path x.path y.path e x.value x.fits) y.fits

none_twice : IsProp ⊥
none_twice a b = absurd a

path_some : (path : List ℕ) → IsPath path → 0 < length path
path_some path p = omega (arith, ap length p.ends, length_push p.front p.last)

path_last : (path : List ℕ) → IsPath path → get_or path (length path - 1) 0 ≢ 47
path_last path p e = p.named (sym (get_or_push p.front p.last 0 (length path - 1) (omega (arith, ap length p.ends, length_push p.front p.last))) ∙ sym (ap (λ t. get_or t (length path - 1) 0) p.ends) ∙ e)

path_known : {A : Type 0} (path : List ℕ) → ∥ A ∥₁ → (A → IsPath path) → IsPath path
path_known path known good =
    path_of path
    (∥∥₁_elim known le_prop (λ f. path_some path (good f)))
    (λ e. ∥∥₁_elim known none_twice (λ f. path_last path (good f) e))
    (λ k d h. (
      ∥∥₁_elim known le_prop (λ f. ((good f).bytes k d h).0),
      ∥∥₁_elim known le_prop (λ f. ((good f).bytes k d h).1),
      λ e. ∥∥₁_elim known none_twice (λ f. ((good f).bytes k d h).2 e),
    ))

-- What a holder knows of the parts, beside that the value, or the setting, fits.
pub entry_path : (x : EntryData) → IsPath x.path
entry_path x = path_known x.path x.fits (λ f. f.1.good)

pub entry_has_line : (x : EntryData) → print_lines x.value ≢ []
entry_has_line x e = ∥∥₁_elim x.fits none_twice (λ f. f.1.some_line e)

pub item_path : (x : ItemData) → IsPath x.path
item_path x = path_known x.path x.fits (λ f. f.1.good)
