-- What holds of bytes that are pushed into a token.
use Rattle.std.proofs.Common.{◌≤◌, ◌-◌, ◌∙◌, sym, ap, refl, length-drop, ◌≡◌, ◌↔◌, ℕ, zero, suc, ◌+◌, ◌<◌, List, [], ◌∷◌, ◌++◌, length, take, drop, get_or, append_assoc, arith}
use Rattle.std.proofs.Math.Seq.{take-add}
use Rattle.std.proofs.lemmas.List.{get_or-drop, take-append-drop, take_all}
use Rattle.cg_text.specs.Pushed.{HasRoom, IsWithin, Stops, after_run, run_of, used_of}
use Rattle.cg_text.specs.declared.pushed.Pushed.{Pushed}
use Rattle.cg_text.specs.declared.pushed.Pushed.TheVariants.{All, Refused, Starved}
use Rattle.cg_text.specs.Scan.{FollowsRun}
use Rattle.cg_text.specs.Token.{NoneBegins}

module _ {S V : Type 0} (means : S → List ℕ → V → Type 0) where
  -- A run, and then another.
  pub run_joined : (old s new : S) (bytes : List ℕ) (used count : ℕ) →
      FollowsRun means old (take used bytes) s → FollowsRun means s (take count (drop used bytes)) new → FollowsRun means old (take (used + count) bytes) new
  run_joined old s new bytes used count f g rest v =
      let more = take count (drop used bytes) in
      rw (take-add used count bytes, append_assoc (take used bytes) more rest) (λ k. (f (more ++ rest) v).0 ((g rest v).0 k), λ k. (g rest v).1 ((f (more ++ rest) v).1 k))

  -- The only byte is refused.
  pub only_refused : (old new : S) (byte n : ℕ) → n < length (byte ∷ []) → FollowsRun means old (take n (byte ∷ [])) new → NoneBegins means new (get_or (byte ∷ []) n 0) → NoneBegins means old byte
  only_refused old new byte zero h f none rest v k = none rest v ((f (byte ∷ rest) v).1 k)
  only_refused old new byte (suc n) h f none rest v k = absurd (omega (arith, h))

-- What was taken, by how many bytes.
pub used_within : (bytes : List ℕ) (r : Pushed) → IsWithin r bytes → used_of r bytes ≤ length bytes
used_within bytes All k = omega arith
used_within bytes (Refused n) k = omega (arith, k)
used_within bytes (Starved n) k = omega (arith, k)

pub run_used : (bytes : List ℕ) (r : Pushed) → run_of r bytes ≡ take (used_of r bytes) bytes
run_used bytes All = sym (take_all (length bytes) bytes (omega arith))
run_used bytes (Refused n) = refl
run_used bytes (Starved n) = refl

-- What stops the one stops the other, where the same bytes begin their rests.
pub stops_as : {V W : Type 0} (P : List ℕ → V → Type 0) (Q : List ℕ → W → Type 0) (bytes : List ℕ) → ((b : ℕ) → ((rest : List ℕ) × (v : V) × P (b ∷ rest) v) ↔ ((rest : List ℕ) × (w : W) × Q (b ∷ rest) w)) →
    (r : Pushed) → Stops P bytes r → Stops Q bytes r
stops_as P Q bytes is All h = h
stops_as P Q bytes is (Refused n) h = λ rest w k. (let b = (is (get_or bytes n 0)).1 (rest, w, k) in h b.0 b.1 b.2)
stops_as P Q bytes is (Starved n) h = (is (get_or bytes n 0)).0 h

-- What came of the bytes after so many, said of all.
module _ (bytes back : List ℕ) (used : ℕ) (e : back ≡ drop used bytes) where
  pub run_after_run : (r : Pushed) → run_of (after_run used r) bytes ≡ take used bytes ++ run_of r back
  run_after_run All = rw e (sym (take-append-drop used bytes))
  run_after_run (Refused n) = rw e (take-add used n bytes)
  run_after_run (Starved n) = rw e (take-add used n bytes)

  few : used ≤ length bytes → (n : ℕ) → n < length back → used + n < length bytes
  few h n k =
      let len : length back ≡ length bytes - used = ap length e ∙ length-drop used bytes in
      omega (arith, k)

  pub room_after : used ≤ length bytes → length bytes < 18446744073709551616 → (r : Pushed) → IsWithin r back → HasRoom used r
  room_after h len All k = k
  room_after h len (Refused n) k = omega (arith, few h n k)
  room_after h len (Starved n) k = omega (arith, few h n k)

  byte_after : (n : ℕ) → get_or back n 0 ≡ get_or bytes (used + n) 0
  byte_after n = rw e (get_or-drop used bytes n 0)

  module _ {V : Type 0} where
    pub stops_after : (P : List ℕ → V → Type 0) (r : Pushed) → Stops P back r → Stops P bytes (after_run used r)
    stops_after P All h = h
    stops_after P (Refused n) h = rw (byte_after n) at h
    stops_after P (Starved n) h = rw (byte_after n) at h

    pub follows_after : {S : Type 0} (means : S → List ℕ → V → Type 0) (old s new : S) (r : Pushed) → FollowsRun means old (take used bytes) s → FollowsRun means s (run_of r back) new → FollowsRun means old (run_of (after_run used r) bytes) new
    follows_after means old s new r f g rest v =
        rw (run_after_run r, append_assoc (take used bytes) (run_of r back) rest) (λ k. (f (run_of r back ++ rest) v).0 ((g rest v).0 k), λ k. (g rest v).1 ((f (run_of r back ++ rest) v).1 k))
