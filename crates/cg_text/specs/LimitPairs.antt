-- The pairs of a write of io.max (cgroup-v2.rst, io.max: nested keys in any order, not all of them given).
use Rattle.std.specs.Prelude.{◌≡◌, ℕ, Bool, true, false, cond, List, [], ◌∷◌, ◌++◌, Option, Some, None, codes}
use Rattle.cg_text.specs.Limit.{IsLimit}
use Rattle.cg_text.specs.declared.values.Limit.{Limit}
use Rattle.cg_text.specs.declared.pairs.LimitKey.{LimitKey}
use Rattle.cg_text.specs.declared.pairs.LimitKey.TheVariants.{Rbps, Wbps, Riops, Wiops}
use Rattle.cg_text.specs.declared.pairs.LimitPairs.{LimitPairs}

abbrev pub key_text : LimitKey → List ℕ
key_text Rbps = codes "rbps"
key_text Wbps = codes "wbps"
key_text Riops = codes "riops"
key_text Wiops = codes "wiops"

-- The text is a key, '=' and a limit of at least 1.
abbrev pub IsLimitPair : LimitKey × Limit → List ℕ → Type 0
IsLimitPair p text = (limit : List ℕ) × (text ≡ key_text (p.0) ++ 61 ∷ limit) × IsLimit 1 18446744073709551615 (p.1) limit

-- One or more pairs, with single spaces between.
abbrev pub AreLimitPairs : List (LimitKey × Limit) → List ℕ → Type 0
AreLimitPairs [] text = ⊥
AreLimitPairs (p ∷ []) text = IsLimitPair p text
AreLimitPairs (p ∷ q ∷ ps) text = (front : List ℕ) × (back : List ℕ) × (text ≡ front ++ 32 ∷ back) × IsLimitPair p front × AreLimitPairs (q ∷ ps) back

abbrev pub is_key : LimitKey → LimitKey → Bool
is_key Rbps Rbps = true
is_key Wbps Wbps = true
is_key Riops Riops = true
is_key Wiops Wiops = true
is_key _ _ = false

-- The key's limit in the first pair that has the key, if any.
abbrev pub limit_of : LimitKey → List (LimitKey × Limit) → Option Limit
limit_of key [] = None
limit_of key (p ∷ ps) = cond (is_key key (p.0)) (Some (p.1)) (limit_of key ps)

-- No key comes twice.
abbrev pub HasDistinctKeys : List (LimitKey × Limit) → Type 0
HasDistinctKeys [] = Unit {0}
HasDistinctKeys (p ∷ ps) = (limit_of (p.0) ps ≡ None) × HasDistinctKeys ps

-- The text gives these limits, no key twice; none where a key isn't given.
pub record AreLimits (v : LimitPairs) (text : List ℕ) : Type 0 where
  pub pairs : List (LimitKey × Limit)
  pub spelled : AreLimitPairs pairs text
  pub distinct : HasDistinctKeys pairs
  pub rbps : v.rbps ≡ limit_of Rbps pairs
  pub wbps : v.wbps ≡ limit_of Wbps pairs
  pub riops : v.riops ≡ limit_of Riops pairs
  pub wiops : v.wiops ≡ limit_of Wiops pairs
