-- The texts of values in terms of what joins them.
use Rattle.std.proofs.Common.{◌≡◌, ℕ, List, [], ◌∷◌, ◌++◌, map, refl, ap, append_assoc, append-nil}
use Rattle.std.proofs.lemmas.List.Folds.{flat_map-map}
use Rattle.std.specs.List.{flat_map}
use Rattle.cg_value.specs.Lines.{unlines}
use Rattle.cg_value.specs.Print.{print_led, print_range, print_set}
use Rattle.cg_value.specs.ReadLine.{words_line}
use Rattle.cg_value.specs.Records.{records}
use Rattle.cg_value.specs.WriteLine.{sign_of, toggles_line}
use Rattle.cg_value.specs.declared.setting.Toggle.{Toggle}
use Rattle.cg_print.specs.Headed.{headed, shown}
use Rattle.cg_print.specs.Joined.{led, joined}

-- Lines after a head.
pub headed_mapped : {X : Type 0} (head : List ℕ) (f : X → List ℕ) (xs : List X) → headed head (map f xs) ≡ flat_map (λ x. headed head (f x ∷ [])) xs
headed_mapped head f [] = refl
headed_mapped head f (x ∷ xs) = rw (headed_mapped head f xs, append_assoc head (f x ++ 10 ∷ []) (flat_map (λ y. headed head (f y ∷ [])) xs), append_assoc (f x) (10 ∷ []) (flat_map (λ y. headed head (f y ∷ [])) xs)) refl

pub headed_append : (head : List ℕ) (xs ys : List (List ℕ)) → headed head (xs ++ ys) ≡ headed head xs ++ headed head ys
headed_append head [] ys = refl
headed_append head (x ∷ xs) ys = rw (headed_append head xs ys, append_assoc head (x ++ 10 ∷ headed head xs) (headed head ys), append_assoc x (10 ∷ headed head xs) (headed head ys)) refl

-- A file's text has no heads, and a record's head is the path and a NUL.
pub headed_none : (lines : List (List ℕ)) → headed [] lines ≡ unlines lines
headed_none [] = refl
headed_none (line ∷ lines) = ap (λ t. line ++ 10 ∷ t) (headed_none lines)

pub headed_path : (path : List ℕ) (lines : List (List ℕ)) → headed (path ++ 0 ∷ []) lines ≡ records path lines
headed_path path [] = refl
headed_path path (line ∷ lines) = rw (headed_path path lines, append_assoc path (0 ∷ []) (line ++ 10 ∷ records path lines)) refl

pub headed_shown : (path : List ℕ) (lines : List (List ℕ)) → headed (path ++ 58 ∷ 32 ∷ []) lines ≡ shown path lines
headed_shown path [] = refl
headed_shown path (line ∷ lines) = rw (headed_shown path lines, append_assoc path (58 ∷ 32 ∷ []) (line ++ 10 ∷ shown path lines)) refl

-- Items, after a space each.
pub led_is : {X : Type 0} (f : X → List ℕ) (xs : List X) → led 32 f xs ≡ print_led f xs
led_is f [] = refl
led_is f (x ∷ xs) = ap (λ t. 32 ∷ (f x ++ t)) (led_is f xs)

-- What lies in places is joined as the places are.
pub joined_mapped : {X Y : Type 0} (mark : ℕ) (f : Y → List ℕ) (h : X → Y) (xs : List X) → joined mark f (map h xs) ≡ joined mark (λ x. f (h x)) xs
joined_mapped mark f h [] = refl
joined_mapped mark f h (x ∷ xs) = ap (λ t. f (h x) ++ t) (flat_map-map (λ y. mark ∷ f y) h xs)

-- Words with spaces between.
pub words_is : (ws : List (List ℕ)) → joined 32 (λ w. w) ws ≡ words_line ws
words_is [] = refl
words_is (w ∷ []) = append-nil w
words_is (w ∷ v ∷ ws) = ap (λ t. w ++ 32 ∷ t) (words_is (v ∷ ws))

-- Toggles with spaces between.
pub toggles_is : (ts : List Toggle) → joined 32 (λ t. sign_of t.on ∷ t.name) ts ≡ toggles_line ts
toggles_is [] = refl
toggles_is (t ∷ []) = append-nil (sign_of t.on ∷ t.name)
toggles_is (t ∷ u ∷ ts) = ap (λ r. (sign_of t.on ∷ t.name) ++ 32 ∷ r) (toggles_is (u ∷ ts))

-- Ranges with commas between.
pub set_is : (rs : List (ℕ × ℕ)) → joined 44 print_range rs ≡ print_set rs
set_is [] = refl
set_is (r ∷ []) = append-nil (print_range r)
set_is (r ∷ q ∷ rs) = ap (λ t. print_range r ++ 44 ∷ t) (set_is (q ∷ rs))
