-- What holds of the pairs in front of some bytes.
use Rattle.std.proofs.Common.{◌≡◌, ℕ, ◌+◌, List, [], ◌∷◌, ◌++◌, length, take, drop, refl, sym, ◌∙◌, ap}
use Rattle.std.proofs.Math.Seq.{take-add}
use Rattle.cg_text.specs.Limit.{IsLimit}
use Rattle.cg_text.specs.LimitPairs.{key_text}
use Rattle.cg_text.specs.RangesLaws.{append_nil}
use Rattle.cg_text.specs.LimitPairsState.{key_start, with_limit, IsNewPair, LimitsRest, IsFreeKey}
use Rattle.cg_text.specs.LimitPairsLaws.{start_text, after_more}
use Rattle.cg_text.specs.declared.values.Limit.{Limit}
use Rattle.cg_text.specs.declared.pairs.LimitKey.{LimitKey}
use Rattle.cg_text.specs.declared.pairs.LimitKey.TheVariants.{Rbps}
use Rattle.cg_text.specs.declared.pairs.LimitPairs.{LimitPairs}
use Rattle.cg_text.specs.declared.pairs.PairPart.TheVariants.{InKey}

-- A key, and then a limit.
pub new_pair : (given : LimitPairs) (key : LimitKey) (limit : Limit) (count : ℕ) (bytes : List ℕ) → IsFreeKey given key bytes →
    IsLimit 1 18446744073709551615 limit (take count (drop (length (key_start key)) bytes)) → IsNewPair given (key, limit) (take (length (key_start key) + count) bytes)
new_pair given key limit count bytes h k =
    let rest : List ℕ = take count (drop (length (key_start key)) bytes) in
    let whole : take (length (key_start key) + count) bytes ≡ key_text key ++ 61 ∷ rest =
    take-add (length (key_start key)) count bytes ∙ ap (λ front. front ++ rest) h.2 ∙ start_text key rest in
    (h.0, (rest, whole, k))

-- One pair, the last.
pub limits_last : (given all : LimitPairs) (p : LimitKey × Limit) (text : List ℕ) → all ≡ with_limit (p.0) (p.1) given → IsNewPair given p text → LimitsRest given (InKey Rbps 0) text all
limits_last given all p text e h = (p ∷ [], e, (text, [], sym (append_nil text), h, refl))

-- One pair, a space, and further pairs.
pub limits_more : (given all : LimitPairs) (p : LimitKey × Limit) (front back text : List ℕ) (v : LimitPairs) → all ≡ with_limit (p.0) (p.1) given → text ≡ front ++ 32 ∷ back →
    IsNewPair given p front → LimitsRest all (InKey Rbps 0) back v → LimitsRest given (InKey Rbps 0) text v
limits_more given all p front back text v e t h k =
    let r : LimitsRest (with_limit (p.0) (p.1) given) (InKey Rbps 0) back v = rw e at k in
    (p ∷ r.0, r.1, (front, 32 ∷ back, t, h, (after_more (with_limit (p.0) (p.1) given) Rbps r.0 back).1 r.2))
