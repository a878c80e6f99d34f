-- What holds of tokens that take a run of bytes.
use Rattle.std.proofs.Common.{◌≡◌, ℕ, ◌+◌, ◌<◌, List, [], ◌∷◌, ◌++◌, length, take, get_or, append_assoc}
use Rattle.std.proofs.lemmas.List.{take_more}
use Rattle.cg_text.specs.Scan.{FollowsRun}
use Rattle.cg_text.specs.Token.{Follows, Same}

one_more : (text rest : List ℕ) (i : ℕ) → i < length text → take (i + 1) text ++ rest ≡ take i text ++ get_or text i 0 ∷ rest
one_more text rest i h = rw (take_more text i 0 h) (append_assoc (take i text) (get_or text i 0 ∷ []) rest)

module _ {S V : Type 0} (means : S → List ℕ → V → Type 0) where
  -- No byte was taken.

  -- One more byte was taken.
  pub run_more : (old s new : S) (text : List ℕ) (i : ℕ) → i < length text → FollowsRun means old (take i text) s → Follows means s (get_or text i 0) new → FollowsRun means old (take (i + 1) text) new
  run_more old s new text i h a f rest v = rw (one_more text rest i h) (λ k. (a (get_or text i 0 ∷ rest) v).0 ((f rest v).0 k), λ k. (f rest v).1 ((a (get_or text i 0 ∷ rest) v).1 k))

  -- A state that means the same.
  pub run_same : (old s new : S) (run : List ℕ) → FollowsRun means old run s → Same means s new → FollowsRun means old run new
  run_same old s new run a e rest v = (λ k. (a rest v).0 ((e rest v).0 k), λ k. (e rest v).1 ((a rest v).1 k))
