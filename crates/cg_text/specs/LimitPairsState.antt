-- What is left of the pairs of a write of io.max.
use Rattle.std.specs.Prelude.{◌≡◌, ℕ, suc, ◌≤◌, ◌↔◌, Bool, true, false, ◌&&◌, leb, ltb, List, [], ◌∷◌, ◌++◌, Option, Some, None, codes, length, take, drop, IsTrue}
use Rattle.cg_text.specs.Limit.{IsLimit}
use Rattle.cg_text.specs.LimitPairs.{key_text, IsLimitPair}
use Rattle.cg_text.specs.RangesState.{Cut, number_rest}
use Rattle.cg_text.specs.DecimalState.{decimal_ends}
use Rattle.cg_text.specs.declared.values.Limit.{Limit}
use Rattle.cg_text.specs.declared.values.Limit.TheVariants.{Max, At}
use Rattle.cg_text.specs.declared.pairs.LimitKey.{LimitKey}
use Rattle.cg_text.specs.declared.pairs.LimitKey.TheVariants.{Rbps, Wbps, Riops, Wiops}
use Rattle.cg_text.specs.declared.pairs.LimitPairs.{LimitPairs}
use Rattle.cg_text.specs.declared.pairs.LimitPart.{LimitPart}
use Rattle.cg_text.specs.declared.pairs.LimitPart.TheVariants.{Start, Word, Number}
use Rattle.cg_text.specs.declared.pairs.PairPart.{PairPart}
use Rattle.cg_text.specs.declared.pairs.PairPart.TheVariants.{InKey, InLimit}

-- A key's text with its '='.
abbrev pub key_start : LimitKey → List ℕ
key_start key = key_text key ++ 61 ∷ []

abbrev pub is_none : Option Limit → Bool
is_none None = true
is_none (Some l) = false

-- The key's limit isn't given.
abbrev pub is_free : LimitKey → LimitPairs → Bool
is_free Rbps v = is_none v.rbps
is_free Wbps v = is_none v.wbps
is_free Riops v = is_none v.riops
is_free Wiops v = is_none v.wiops

abbrev pub with_limit : LimitKey → Limit → LimitPairs → LimitPairs
with_limit Rbps l v = record v { rbps = Some l }
with_limit Wbps l v = record v { wbps = Some l }
with_limit Riops l v = record v { riops = Some l }
with_limit Wiops l v = record v { wiops = Some l }

abbrev pub with_pairs : LimitPairs → List (LimitKey × Limit) → LimitPairs
with_pairs v [] = v
with_pairs v (p ∷ ps) = with_pairs (with_limit (p.0) (p.1) v) ps

-- What is left of a limit.
abbrev pub LimitRest : LimitPart → List ℕ → Limit → Type 0
LimitRest Start rest v = IsLimit 1 18446744073709551615 v rest
LimitRest (Word at) rest v = (v ≡ Max) × (rest ≡ drop at (codes "max"))
LimitRest (Number d) rest v = (n : ℕ) × (v ≡ At n) × number_rest d rest n

abbrev pub limit_ends : LimitPart → Bool
limit_ends Start = false
limit_ends (Word at) = leb 3 at
limit_ends (Number d) = decimal_ends d.lo d.hi d.progress

-- A pair whose key isn't given.
abbrev pub IsNewPair : LimitPairs → LimitKey × Limit → List ℕ → Type 0
IsNewPair given p text = IsTrue (is_free (p.0) given) × IsLimitPair p text

-- The bytes begin with the text of the key, which isn't given.
abbrev pub IsFreeKey : LimitPairs → LimitKey → List ℕ → Type 0
IsFreeKey given key bytes = IsTrue (is_free key given) × (length (key_start key) ≤ length bytes) × (take (length (key_start key)) bytes ≡ key_start key)

-- What is left of a pair. In a key, the bytes so far are the first ones of that key.
abbrev pub PairRest : LimitPairs → PairPart → List ℕ → LimitKey × Limit → Type 0
PairRest given (InKey key at) rest p = IsNewPair given p (take at (key_start key) ++ rest)
PairRest given (InLimit key part) rest p = (p.0 ≡ key) × LimitRest part rest (p.1)

-- What follows a pair.
abbrev pub AfterPair : LimitPairs → List (LimitKey × Limit) → List ℕ → Type 0
AfterPair given [] text = text ≡ []
AfterPair given (p ∷ ps) text = (u : List ℕ) × (text ≡ 32 ∷ u) × Cut (IsNewPair given p) (AfterPair (with_limit (p.0) (p.1) given) ps) u

-- The pairs to come, where P is what is left of the first.
abbrev pub PairsRest : LimitPairs → (List ℕ → LimitKey × Limit → Type 0) → List (LimitKey × Limit) → List ℕ → Type 0
PairsRest given P [] text = ⊥
PairsRest given P (p ∷ ps) text = Cut (λ x. P x p) (AfterPair (with_limit (p.0) (p.1) given) ps) text

-- The limits so far with those to come are v.
abbrev pub LimitsRest : LimitPairs → PairPart → List ℕ → LimitPairs → Type 0
LimitsRest given part rest v = (ps : List (LimitKey × Limit)) × (v ≡ with_pairs given ps) × PairsRest given (PairRest given part) ps rest

-- The key at hand isn't given yet, and isn't whole.
abbrev pub is_live : LimitPairs → PairPart → Bool
is_live given (InKey key at) = is_free key given && ltb at (length (key_start key))
is_live given (InLimit key part) = is_free key given

abbrev pub limits_end : PairPart → Bool
limits_end (InKey key at) = false
limits_end (InLimit key part) = limit_ends part

-- The key's text goes on with the byte.
abbrev pub GoesOn : LimitPairs → LimitKey → ℕ → ℕ → LimitKey → Type 0
GoesOn given like at byte key = IsTrue (is_free key given) × (take (suc at) (key_start key) ≡ take at (key_start like) ++ byte ∷ [])

-- A state after the byte.
abbrev pub IsNextPart : LimitPairs → PairPart → ℕ → LimitPairs → PairPart → Type 0
IsNextPart given part byte new next = IsTrue (is_live new next) × ((rest : List ℕ) (v : LimitPairs) → LimitsRest new next rest v ↔ LimitsRest given part (byte ∷ rest) v)
