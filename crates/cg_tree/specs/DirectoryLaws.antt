-- The directory and the name of a path are what stands before and after its last '/'.
use Rattle.std.proofs.Common.{◌≡◌, ℕ, ◌-◌, ◌⊎◌, inl, inr, ◌||◌, Bool, true, false, List, [], ◌∷◌, ◌++◌, take, drop, length, ◌==◌, refl, sym, ap, ◌∙◌, append_assoc, arith}
use Rattle.std.proofs.lemmas.Bool.{ne_eqb}
use Rattle.std.proofs.lemmas.List.{length-append}
use Rattle.std.specs.List.{list_any}
use Rattle.cg_text.specs.Texts.{Lacks}
use Rattle.cg_value.specs.Path.{IsNameOf}
use Rattle.cg_tree.specs.Directory.{directory_of, name_of}

no_slash : (bs : List ℕ) → Lacks 47 bs → list_any (λ c. c == 47) bs ≡ false
no_slash [] h = refl
no_slash (b ∷ bs) h = rw (ne_eqb b 47 h.0) (no_slash bs h.1)

or_true : (a : Bool) → (a || true) ≡ true
or_true true = refl
or_true false = refl

slash_inside : (front back : List ℕ) → list_any (λ c. c == 47) (front ++ 47 ∷ back) ≡ true
slash_inside [] back = refl
slash_inside (b ∷ bs) back = ap (λ t. (b == 47) || t) (slash_inside bs back) ∙ or_true (b == 47)

plain_name : (name : List ℕ) → Lacks 47 name → directory_of name ≡ []
plain_name [] h = refl
plain_name (b ∷ bs) h = rw (no_slash (b ∷ bs) h) refl

slash_last : (front name : List ℕ) → Lacks 47 name → directory_of (front ++ 47 ∷ name) ≡ front ++ 47 ∷ []
slash_last [] name h = ap (λ t. 47 ∷ t) (plain_name name h)
slash_last (b ∷ bs) name h = rw (slash_inside (b ∷ bs) name) (ap (λ t. b ∷ t) (slash_last bs name h))

directory_by : (path name directory : List ℕ) → path ≡ directory ++ name → Lacks 47 name → (directory ≡ []) ⊎ ((front : List ℕ) × (directory ≡ front ++ 47 ∷ [])) → directory_of path ≡ directory
directory_by path name directory whole plain (inl e) = ap directory_of (whole ∙ ap (λ t. t ++ name) e) ∙ plain_name name plain ∙ sym e
directory_by path name directory whole plain (inr f) =
    ap directory_of (whole ∙ ap (λ t. t ++ name) f.1 ∙ append_assoc f.0 (47 ∷ []) name) ∙ slash_last f.0 name plain ∙ sym f.1

pub directory_is : (path name : List ℕ) (n : IsNameOf path name) → directory_of path ≡ n.directory
directory_is path name n = directory_by path name n.directory n.whole n.plain n.ends

take_front : {X : Type 0} (xs ys : List X) → take (length xs) (xs ++ ys) ≡ xs
take_front [] ys = refl
take_front (x ∷ xs) ys = ap (λ t. x ∷ t) (take_front xs ys)

drop_front : {X : Type 0} (xs ys : List X) → drop (length xs) (xs ++ ys) ≡ ys
drop_front [] ys = refl
drop_front (x ∷ xs) ys = drop_front xs ys

pub name_is : (path name : List ℕ) → IsNameOf path name → name_of path ≡ name
name_is path name n = rw (directory_is path name n) (ap (drop (length n.directory)) n.whole ∙ drop_front n.directory name)

-- What is left of the path without its name.
pub front_is : (path name : List ℕ) → IsNameOf path name → take (length path - length name) path ≡ directory_of path
front_is path name n =
    let same : length path - length name ≡ length n.directory = omega (arith, ap length n.whole, length-append n.directory name) in
    ap (λ m. take m path) same ∙ ap (take (length n.directory)) n.whole ∙ take_front n.directory name ∙ sym (directory_is path name n)
