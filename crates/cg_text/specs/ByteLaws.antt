-- What is left of a text of one byte.
use Rattle.std.proofs.Common.{◌≡◌, ℕ, suc, ◌+◌, ◌<◌, ◌↔◌, Bool, true, false, List, [], ◌∷◌, ◌++◌, take, drop, refl, ◌∙◌, ap, arith, IsTrue}
use Rattle.std.proofs.Math.Seq.{take-add}
use Rattle.cg_text.specs.Token.{AreBytes}

abbrev pub left : Bool → ℕ → List ℕ
left true b = []
left false b = b ∷ []

pub byte_ends : (taken : Bool) (b : ℕ) → IsTrue taken ↔ (Unit {0} × ([] ≡ left taken b))
byte_ends true b = (λ _. (tt, refl), λ _. refl)
byte_ends false b = (λ e. absurd (cc), λ h. absurd (let e = h.1 in cc))

-- What is left holds bytes.
pub byte_bytes : (taken : Bool) (b : ℕ) (rest : List ℕ) → b < 256 → rest ≡ left taken b → AreBytes rest
byte_bytes true b rest small e = rw e tt
byte_bytes false b rest small e = rw e (small, tt)

-- So many bytes, a space, and then some bytes.
pub take_space : (count more : ℕ) (bytes behind : List ℕ) → drop count bytes ≡ 32 ∷ behind → take (count + 1 + more) bytes ≡ take count bytes ++ 32 ∷ take more behind
take_space count more bytes behind e =
    let further : count + 1 + more ≡ count + suc more = omega arith in
    ap (λ n. take n bytes) further ∙ take-add count (suc more) bytes ∙ ap (λ rest. take count bytes ++ take (suc more) rest) e
