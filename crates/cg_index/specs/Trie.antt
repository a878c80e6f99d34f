-- The trie of the hashes of keys: each key stands where the walk by the digits of its hash, two by two from the lowest,
-- first meets its hash.
use Rattle.std.specs.Prelude.{◌≡◌, ℕ, ◌/◌, ◌%◌, ◌<◌, List, [], ◌∷◌, ◌++◌, length, slice_index, slice_index_or, slice_set}
use Rattle.cg_text.specs.Hash.{hash_of}
use Rattle.cg_index.specs.Tree.{key_at}
use Rattle.cg_index.specs.declared.trie.End.{End}
use Rattle.cg_index.specs.declared.trie.End.TheVariants as end
use Rattle.cg_index.specs.declared.trie.Opening.{Opening}

-- To where the links of a cell lead.
abbrev pub places_at : List (List ℕ) → ℕ → List ℕ
places_at trie p = slice_index_or trie p []

-- To where a walk goes on from a cell by a digit, 0 where it doesn't.
unfoldable pub next : List (List ℕ) → ℕ → ℕ → ℕ
next trie p digit = slice_index (places_at trie p) digit

-- The key at the place has the hash.
abbrev pub HasHash : List (List ℕ) → ℕ → ℕ → Type 0
HasHash keys hash p = (p < length keys) × (hash_of (key_at keys p) ≡ hash)

-- A walk by what is left of the hash's digits, which has come to a place, ends here.
pub data Ends (trie keys : List (List ℕ)) (hash : ℕ) : ℕ → ℕ → End → Type 0 where
  met : {rest p : ℕ} {e : End} → HasHash keys hash p → e ≡ end.Met p → Ends trie keys hash rest p e
  vacant : {rest p : ℕ} {e : End} → (HasHash keys hash p → ⊥) → next trie p (rest % 4) ≡ 0 → e ≡ end.Open (record { place = p; digit = rest % 4 }) → Ends trie keys hash rest p e
  on : {rest p : ℕ} {e : End} → (HasHash keys hash p → ⊥) → 0 < next trie p (rest % 4) → Ends trie keys hash (rest / 4) (next trie p (rest % 4)) e → Ends trie keys hash rest p e

-- The walk by the digits of the hash ends here.
abbrev pub IsEnd : List (List ℕ) → List (List ℕ) → ℕ → End → Type 0
IsEnd trie keys hash e = Ends trie keys hash hash 0 e

-- Links lead to later places, and each key is met by its hash.
pub record IsTrie (trie keys : List (List ℕ)) : Type 0 where
  pub count : length trie ≡ length keys
  pub four : (p : ℕ) → p < length trie → length (places_at trie p) ≡ 4
  pub rising : (p digit : ℕ) → p < length trie → 0 < next trie p digit → (p < next trie p digit) × (next trie p digit < length trie)
  pub met : (k : ℕ) → k < length trie → IsEnd trie keys (hash_of (key_at keys k)) (end.Met k)

-- The links where those of one more cell follow, to which this opening leads.
abbrev pub linked : List (List ℕ) → Opening → List (List ℕ)
linked trie at = slice_set trie at.place (slice_set (places_at trie at.place) at.digit (length trie)) ++ (0 ∷ 0 ∷ 0 ∷ 0 ∷ []) ∷ []
