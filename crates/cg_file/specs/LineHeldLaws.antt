-- How much is held of files, by their values.
use Rattle.std.proofs.Common.{◌≡◌, ℕ, suc, refl, ◌+◌, ◌≤◌, List, [], ◌∷◌, length, map, arith}
use Rattle.std.proofs.lemmas.List.Sums.{sum_by-cons, sum_by-le-sum_by}
use Rattle.std.specs.List.{sum_by}
use Rattle.cg_join.specs.Pairs.{pair_size}
use Rattle.cg_join.specs.Repeat.{items_size}
use Rattle.cg_file.specs.Kinds.{held_of_whole}
use Rattle.cg_value.specs.Flat.{flat_size}
use Rattle.cg_value.specs.Print.{print_flat_limit, print_flat_line, print_nested_line}
use Rattle.cg_value.specs.Held.{held_of_key}
use Rattle.cg_value.specs.declared.flat.FlatPair.{FlatPair}
use Rattle.cg_value.specs.declared.value.FlatLimit.{FlatLimit}
use Rattle.cg_value.specs.declared.value.NestedLine.{NestedLine}
use Rattle.cg_value.specs.declared.value.NestedPair.{NestedPair}
use Rattle.cg_value.specs.declared.value.Value.TheVariants.{Flat, FlatLimits, Nested}
use Rattle.cg_join.specs.SettledLaws.{joined_bound}

pub same : {A : Type 0} → A → A
same a = a

one_more : (all sum m n p q r : ℕ) → sum ≡ q + r → all ≡ 1 + m + n → m ≤ q → n ≤ p + r → all ≤ suc p + sum
one_more all sum m n p q r e a h k = omega (arith, e, a, h, k)

module _ {V : Type 0} where
  -- A place for each line, and no more for its value than g says.
  pub lines_held : (f g : V → ℕ) (print : V → List ℕ) → ((v : V) → f v ≤ g v) → (vs : List V) → items_size f vs ≤ length (map print vs) + sum_by g vs
  lines_held f g print h [] = omega arith
  lines_held f g print h (v ∷ vs) = one_more (items_size f (v ∷ vs)) (sum_by g (v ∷ vs)) (f v) (items_size f vs) (length (map print vs)) (g v) (sum_by g vs) (sum_by-cons g v vs) refl (h v) (lines_held f g print h vs)

  -- The same where values have no vector.
  pub bare_lines_held : (print : V → List ℕ) (vs : List V) → items_size (λ _. 0) vs ≤ length (map print vs) + 0
  bare_lines_held print [] = omega arith
  bare_lines_held print (v ∷ vs) = one_more (items_size (λ _. 0) (v ∷ vs)) 0 0 (items_size (λ _. 0) vs) (length (map print vs)) 0 0 refl refl (omega arith) (bare_lines_held print vs)

further : (m n p : ℕ) → m ≡ 0 → n ≤ p + 0 → m + n ≤ suc p + 0
further m n p e h = omega (arith, e, h)

-- The same after a line of its own.
pub bare_lines_held_after : {V : Type 0} (print : V → List ℕ) (first : List ℕ) (vs : List V) (m : ℕ) → m ≡ 0 → m + items_size (λ _. 0) vs ≤ length (first ∷ map print vs) + 0
bare_lines_held_after print first vs m e = further m (items_size (λ _. 0) vs) (length (map print vs)) e (bare_lines_held print vs)

-- Of one line, of which so much is held as of its value.
pub line_held : (n m : ℕ) → m ≡ 0 → n + m ≤ 1 + n
line_held n m e = omega (arith, e)

-- Of pairs, each of which holds a place and what is in it.
within : (all sum m n q r : ℕ) → sum ≡ q + r → all ≡ 1 + m + n → 1 + m ≤ q → n ≤ r → all ≤ sum
within all sum m n q r e a h k = omega (arith, e, a, h, k)

pub items_within : {V : Type 0} (f g : V → ℕ) → ((v : V) → 1 + f v ≤ g v) → (vs : List V) → items_size f vs ≤ sum_by g vs
items_within f g h [] = omega arith
items_within f g h (v ∷ vs) = within (items_size f (v ∷ vs)) (sum_by g (v ∷ vs)) (f v) (items_size f vs) (g v) (sum_by g vs) (sum_by-cons g v vs) refl (h v) (items_within f g h vs)

-- Of words with a byte between, of which the last is at hand.
words_joined : (all sum m n q r : ℕ) → sum ≡ q + r → all ≡ 1 + m + n → q ≡ m + 1 → n ≤ r → all ≤ sum
words_joined all sum m n q r e a h k = omega (arith, e, a, h, k)

last_word : (sum n r : ℕ) → sum ≡ (n + 1) + r → n ≤ sum
last_word sum n r e = omega (arith, e)

joined_within : (ws : List (List ℕ)) → joined_bound length length ws ≤ sum_by (λ w. length w + 1) ws
joined_within [] = omega arith
joined_within (w ∷ []) = last_word (sum_by (λ w. length w + 1) (w ∷ [])) (length w) 0 (sum_by-cons (λ w. length w + 1) w [])
joined_within (w ∷ x ∷ ws) = words_joined (joined_bound length length (w ∷ x ∷ ws))
    (sum_by (λ w. length w + 1) (w ∷ x ∷ ws)) (length w) (joined_bound length length (x ∷ ws)) (length w + 1)
    (sum_by (λ w. length w + 1) (x ∷ ws)) (sum_by-cons (λ w. length w + 1) w (x ∷ ws)) refl refl
    (joined_within (x ∷ ws))

one_place : (n m k : ℕ) → k ≡ 0 → n ≤ m → n + k ≤ 1 + m
one_place n m k e h = omega (arith, e, h)

pub words_held : (ws : List (List ℕ)) → joined_bound length length ws + 0 ≤ 1 + sum_by (λ w. length w + 1) ws
words_held ws = one_place (joined_bound length length ws) (sum_by (λ w. length w + 1) ws) 0 refl (joined_within ws)

-- Of flat pairs.
more_of : (m n k : ℕ) → n ≤ k → n ≤ m + k
more_of m n k h = omega (arith, h)

pub flat_held : (ps : List FlatPair) → flat_size ps ≤ held_of_whole (Flat ps)
flat_held ps = more_of (length (map print_flat_line ps)) (flat_size ps) (sum_by (λ (p : FlatPair). held_of_key p.key) ps)
    (sum_by-le-sum_by (λ (p : FlatPair). length p.key + 1) (λ p. held_of_key p.key) ps (λ p. omega arith))

pub flat_limits_held : (ps : List FlatLimit) → items_size (pair_size (λ (p : FlatLimit). p.key) (λ p. p.limit) length (λ _. 0)) ps ≤ held_of_whole (FlatLimits ps)
flat_limits_held ps = more_of (length (map print_flat_limit ps)) (items_size (pair_size (λ (p : FlatLimit). p.key) (λ p. p.limit) length (λ _. 0)) ps) (sum_by (λ (p : FlatLimit). held_of_key p.key) ps)
    (items_within (pair_size (λ (p : FlatLimit). p.key) (λ p. p.limit) length (λ _. 0)) (λ p. held_of_key p.key) (λ p. omega arith) ps)

-- Of nested lines.
nested_pair : (p : NestedPair) → 1 + (length p.key + 0) ≤ held_of_key p.key
nested_pair p = omega arith

nested_line : (n m k : ℕ) → m ≤ k → n + m ≤ (n + 2) + k
nested_line n m k h = omega (arith, h)

nested_line_held : (l : NestedLine) →
    pair_size (λ (q : NestedLine). q.key) (λ q. q.pairs) length
    (items_size (pair_size (λ (p : NestedPair). p.key) (λ p. p.number) length (λ _. 0))) l ≤ held_of_key l.key +
    sum_by (λ (p : NestedPair). held_of_key p.key) l.pairs
nested_line_held l = nested_line (length l.key)
    (items_size (pair_size (λ (p : NestedPair). p.key) (λ p. p.number) length (λ _. 0)) l.pairs)
    (sum_by (λ (p : NestedPair). held_of_key p.key) l.pairs)
    (items_within (pair_size (λ (p : NestedPair). p.key) (λ p. p.number) length (λ _. 0))
    (λ p. held_of_key p.key) nested_pair l.pairs)

pub nested_held : (ls : List NestedLine) → items_size (pair_size (λ (q : NestedLine). q.key) (λ q. q.pairs) length (items_size (pair_size (λ (p : NestedPair). p.key) (λ p. p.number) length (λ _. 0)))) ls ≤ held_of_whole (Nested ls)
nested_held ls = lines_held (pair_size (λ (q : NestedLine). q.key) (λ q. q.pairs) length
    (items_size (pair_size (λ (p : NestedPair). p.key) (λ p. p.number) length (λ _. 0))))
    (λ l. held_of_key l.key + sum_by (λ p. held_of_key p.key) l.pairs) print_nested_line nested_line_held ls
