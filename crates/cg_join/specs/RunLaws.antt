-- What holds of joined tokens that take a run of bytes.
use Rattle.std.proofs.Common.{◌≡◌, ℕ, ◌+◌, ◌<◌, ◌↔◌, inl, inr, Bool, true, List, [], ◌∷◌, ◌++◌, length, Option, Some, None, sym, ◌∙◌, ap, append_assoc, append-nil, arith}
use Rattle.cg_text.specs.Scan.{FollowsRun}
use Rattle.cg_text.specs.Token.{Completes}
use Rattle.cg_join.specs.Join.{IsPair, AreApart}
use Rattle.cg_join.specs.Maybe.{MaybeRest}
use Rattle.cg_join.specs.Ready.{OrReadyRest}
use Rattle.cg_join.specs.SequenceLaws.{cuts}

module _ {S T V W : Type 0} (first : S → List ℕ → V → Type 0) (second : T → List ℕ → W → Type 0) where
  pub apart_run : (s s' : S) (t : T) (run : List ℕ) → FollowsRun first s run s' → AreApart first second s t → AreApart first second s' t
  apart_run s s' t run f apart front more back x v u w h k l =
      apart (run ++ front) more back x v u w ((f front v).0 h) (rw (append_assoc run front (x ∷ more)) ((f (front ++ x ∷ more) u).0 k)) l

  run_first : (s s' : S) (t : T) (run : List ℕ) → AreApart first second s t → Completes first s' → FollowsRun first s run s' →
      (rest : List ℕ) (v : V) (w : W) (front back : List ℕ) → run ++ rest ≡ front ++ back → first s front v → second t back w → IsPair first second s' t rest v w
  run_first s s' t run apart c f rest v w front back e h k =
      elim (cuts run rest front back e) [
        | inl p ↦ record { front = []; back = back; whole = p.1; begins = (f [] v).1 (rw (append-nil run, p.0) h); ends = k }
        | inr (inl p) ↦ record { front = p.0 ∷ p.1; back = back; whole = p.3; begins = (f (p.0 ∷ p.1) v).1 (rw (← p.2) h); ends = k }
        | inr (inr p) ↦ absurd (
            let more : first s (run ++ c.0) c.1 = (f c.0 c.1).0 c.2 in
            let place : run ++ c.0 ≡ front ++ p.0 ∷ (p.1 ++ c.0) = ap (λ xs. xs ++ c.0) p.2 ∙ append_assoc front (p.0 ∷ p.1) c.0 in
            apart front (p.1 ++ c.0) (p.1 ++ rest) p.0 v c.1 w h (rw place at more) (rw p.3 at k))
      ]

  -- What the first takes.
  pub pair_run : (s s' : S) (t : T) (run : List ℕ) → AreApart first second s t → Completes first s' → FollowsRun first s run s' →
      (rest : List ℕ) (v : V) (w : W) → IsPair first second s' t rest v w ↔ IsPair first second s t (run ++ rest) v w
  pair_run s s' t run apart c f rest v w = (
    λ h. record { front = run ++ h.front; back = h.back; whole = ap (λ x. run ++ x) h.whole ∙ sym (append_assoc run h.front h.back); begins = (f h.front v).0 h.begins; ends = h.ends },
    λ h. run_first s s' t run apart c f rest v w h.front h.back h.whole h.begins h.ends,
  )

no_run : (run rest : List ℕ) → 0 < length run → run ++ rest ≡ [] → ⊥
no_run [] rest some e = omega (arith, some)
no_run (b ∷ run) rest some e = cc

-- What a text that may be missing takes.
module _ {V : Type 0} (P P' : List ℕ → V → Type 0) (run : List ℕ) (f : (rest : List ℕ) (v : V) → P' rest v ↔ P (run ++ rest) v) where
  pub maybe_run : 0 < length run → (begun : Bool) (rest : List ℕ) (v : Option V) → MaybeRest true P' rest v ↔ MaybeRest begun P (run ++ rest) v
  maybe_run some begun rest None = (λ h. absurd (let k = h.0 in cc), λ h. absurd (no_run run rest some h.1))
  maybe_run some begun rest (Some v) = f rest v

  pub ready_run : 0 < length run → (value : V) (begun : Bool) (rest : List ℕ) (v : V) → OrReadyRest true P' value rest v ↔ OrReadyRest begun P value (run ++ rest) v
  ready_run some value begun rest v = (
    elim [ inl h ↦ inl ((f rest v).0 h) | inr h ↦ absurd (let k = h.0 in cc) ],
    elim [ inl h ↦ inl ((f rest v).1 h) | inr h ↦ absurd (no_run run rest some h.1.0) ],
  )

-- What is said with the relation of a part: where it goes on with each byte that the part takes, it goes on with a run of them.
module _ {V W : Type 0} (whole : (List ℕ → V → Type 0) → List ℕ → W → Type 0) (Fits : (List ℕ → V → Type 0) → Type 0)
    (fits : (P : List ℕ → V → Type 0) (b : ℕ) → Fits P → Fits (λ rest v. P (b ∷ rest) v))
    (same : (P P' : List ℕ → V → Type 0) → ((rest : List ℕ) (v : V) → P' rest v ↔ P rest v) → (rest : List ℕ) (w : W) → whole P' rest w ↔ whole P rest w)
    (taken : (P P' : List ℕ → V → Type 0) (b : ℕ) → Fits P → ((rest : List ℕ) × (v : V) × P' rest v) → ((rest : List ℕ) (v : V) → P' rest v ↔ P (b ∷ rest) v) → (rest : List ℕ) (w : W) → whole P' rest w ↔ whole P (b ∷ rest) w) where
  pub part_run : (P P' : List ℕ → V → Type 0) (run : List ℕ) → Fits P → ((rest : List ℕ) × (v : V) × P' rest v) → ((rest : List ℕ) (v : V) → P' rest v ↔ P (run ++ rest) v) →
      (rest : List ℕ) (w : W) → whole P' rest w ↔ whole P (run ++ rest) w
  part_run P P' [] g c f rest w = same P P' f rest w
  part_run P P' (b ∷ run) g c f rest w =
      let Q : List ℕ → V → Type 0 = λ r v. P (b ∷ r) v in
      let more = part_run Q P' run (fits P b g) c f rest w in
      let one = taken P Q b g (run ++ c.0, c.1, (f c.0 c.1).0 c.2) (λ r v. (λ h. h, λ h. h)) (run ++ rest) w in
      (λ h. one.0 (more.0 h), λ h. more.1 (one.1 h))

  -- The same where the part is begun by the first byte.
  pub begun_run : (before : (List ℕ → V → Type 0) → List ℕ → W → Type 0) →
      ((P P' : List ℕ → V → Type 0) (b : ℕ) → Fits P → ((rest : List ℕ) × (v : V) × P' rest v) → ((rest : List ℕ) (v : V) → P' rest v ↔ P (b ∷ rest) v) → (rest : List ℕ) (w : W) → whole P' rest w ↔ before P (b ∷ rest) w) →
      (P P' : List ℕ → V → Type 0) (run : List ℕ) → 0 < length run → Fits P → ((rest : List ℕ) × (v : V) × P' rest v) → ((rest : List ℕ) (v : V) → P' rest v ↔ P (run ++ rest) v) →
      (rest : List ℕ) (w : W) → whole P' rest w ↔ before P (run ++ rest) w
  begun_run before first P P' [] some g c f rest w = absurd (omega (arith, some))
  begun_run before first P P' (b ∷ run) some g c f rest w =
      let Q : List ℕ → V → Type 0 = λ r v. P (b ∷ r) v in
      let more = part_run Q P' run (fits P b g) c f rest w in
      let one = first P Q b g (run ++ c.0, c.1, (f c.0 c.1).0 c.2) (λ r v. (λ h. h, λ h. h)) (run ++ rest) w in
      (λ h. one.0 (more.0 h), λ h. more.1 (one.1 h))
