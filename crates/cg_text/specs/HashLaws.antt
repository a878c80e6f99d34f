-- What holds of hashes.
use Rattle.std.proofs.Common.{◌≡◌, ℕ, ◌+◌, ◌<◌, List, [], ◌∷◌, ◌++◌, take, get_or, length, refl, ap, ◌∙◌}
use Rattle.std.proofs.lemmas.List.{take_more}
use Rattle.cg_text.specs.Hash.{hash_after, hash_from, hash_of}

from_push : (hash : ℕ) (xs : List ℕ) (b : ℕ) → hash_from hash (xs ++ b ∷ []) ≡ hash_after (hash_from hash xs) b
from_push hash [] b = refl
from_push hash (x ∷ xs) b = from_push (hash_after hash x) xs b

-- The hash of no bytes.
pub hash_none : hash_of [] ≡ 0
unfolding hash_of
hash_none = refl

-- The hash of one more byte.
pub hash_more : (xs : List ℕ) (k : ℕ) → k < length xs → hash_of (take (k + 1) xs) ≡ hash_after (hash_of (take k xs)) (get_or xs k 0)
unfolding hash_of
hash_more xs k h = ap (hash_from 0) (take_more xs k 0 h) ∙ from_push 0 (take k xs) (get_or xs k 0)
