-- One element more, when parts of a list are picked.
use Rattle.std.proofs.Common.{◌≡◌, ℕ, ◌+◌, ◌<◌, Bool, true, false, List, [], ◌∷◌, ◌++◌, map, take, length, get_or, cond, sym, ap, ◌∙◌, append-nil, arith}
use Rattle.std.proofs.lemmas.List.{take_more, length-take, map-append}
use Rattle.std.proofs.lemmas.List.Elements.{filter-append}
use Rattle.std.specs.List.{enumerate_from, filter}
use Rattle.cg_tree.specs.Picked.{picked}

numbered_push : {X : Type 0} (n : ℕ) (xs : List X) (x : X) → enumerate_from n (xs ++ x ∷ []) ≡ enumerate_from n xs ++ (n + length xs, x) ∷ []
numbered_push n [] x = ap (λ m. (m, x) ∷ []) (omega arith)
numbered_push n (y ∷ ys) x = ap (λ t. (n, y) ∷ t) (numbered_push (n + 1) ys x ∙ ap (λ m. enumerate_from (n + 1) ys ++ (m, x) ∷ []) (omega arith))

picked_push : {X Y : Type 0} (test : ℕ × X → Bool) (make : ℕ × X → Y) (xs : List X) (x : X) → picked test make (xs ++ x ∷ []) ≡ picked test make xs ++ map make (cond (test (length xs, x)) ((length xs, x) ∷ []) [])
picked_push test make xs x =
    rw (numbered_push 0 xs x, filter-append test (enumerate_from 0 xs) ((0 + length xs, x) ∷ []), map-append make (filter test (enumerate_from 0 xs)) (filter test ((0 + length xs, x) ∷ [])))
    (ap (λ m. picked test make xs ++ map make (cond (test (m, x)) ((m, x) ∷ []) [])) (omega arith))

picked_next : {X Y : Type 0} (test : ℕ × X → Bool) (make : ℕ × X → Y) (xs : List X) (i : ℕ) (x : X) →
    i < length xs → x ≡ get_or xs i x →
    picked test make (take (i + 1) xs)
    ≡ picked test make (take i xs) ++ map make (cond (test (i, x)) ((i, x) ∷ []) [])
picked_next test make xs i x h e =
    ap (picked test make) (take_more xs i x h ∙ ap (λ y. take i xs ++ y ∷ []) (sym e)) ∙ picked_push test make (take i xs) x
    ∙ ap (λ m. picked test make (take i xs) ++ map make (cond (test (m, x)) ((m, x) ∷ []) [])) (omega (arith, length-take i xs))

pub picked_more : {X Y : Type 0} (test : ℕ × X → Bool) (make : ℕ × X → Y) (xs : List X) (i : ℕ) (x : X) →
    i < length xs → x ≡ get_or xs i x → test (i, x) ≡ true →
    picked test make (take (i + 1) xs) ≡ picked test make (take i xs) ++ make (i, x) ∷ []
picked_more test make xs i x h e t =
    picked_next test make xs i x h e ∙ ap (λ b. picked test make (take i xs) ++ map make (cond b ((i, x) ∷ []) [])) t

pub picked_passed : {X Y : Type 0} (test : ℕ × X → Bool) (make : ℕ × X → Y) (xs : List X) (i : ℕ) (x : X) → i < length xs → x ≡ get_or xs i x → test (i, x) ≡ false → picked test make (take (i + 1) xs) ≡ picked test make (take i xs)
picked_passed test make xs i x h e t =
    picked_next test make xs i x h e ∙ ap (λ b. picked test make (take i xs) ++ map make (cond b ((i, x) ∷ []) [])) t ∙ append-nil (picked test make (take i xs))
