-- What holds of sets of bytes.
use Rattle.std.proofs.Common.{◌≡◌, ℕ, zero, suc, false, refl}
use Rattle.std.specs.Prelude.{slice_index_or, replicate}
use Rattle.cg_text.specs.Bytes.{HasByte, no_bytes}

unmarked : (n k : ℕ) → slice_index_or (replicate n false) k false ≡ false
unmarked zero k = refl
unmarked (suc n) zero = refl
unmarked (suc n) (suc k) = unmarked n k

-- The empty set has no byte.
pub none_marked : (byte : ℕ) → HasByte no_bytes byte → ⊥
none_marked byte h = let e = unmarked 256 byte in cc
