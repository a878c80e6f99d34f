-- What holds of bytes that are pushed into one of two tokens.
use Rattle.std.proofs.Common.{ℕ, ◌<◌, ◌≤◌, ◌↔◌, Bool, true, false, ◌||◌, List, ◌∷◌, ◌++◌, length, take, get_or, refl, eqb, inl, inr, arith, IsTrue, IsFalse}
use Rattle.std.proofs.lemmas.List.{get_or-take, length-take-le, take-take}
use Rattle.std.proofs.lemmas.Bool.Decides.{eqb_tells}
use Rattle.cg_text.specs.Pushed.{Stops}
use Rattle.cg_text.specs.Scan.{FollowsRun}
use Rattle.cg_text.specs.Token.{NoneBegins}
use Rattle.cg_text.specs.declared.pushed.Pushed.{Pushed}
use Rattle.cg_text.specs.declared.pushed.Pushed.TheVariants.{All, Refused, Starved}
use Rattle.cg_join.specs.Choice.{IsChoice}
use Rattle.cg_join.specs.ChoiceRunLaws.{run_refused}
use Rattle.cg_join.specs.declared.choice.Either.{Either}
use Rattle.cg_join.specs.declared.choice.Either.TheVariants.{Left, Right}

-- Where a byte is refused after those before it, no rest begins with more of them.
pub longer_refused : {S V : Type 0} (means : S → List ℕ → V → Type 0) (old s : S) (bytes : List ℕ) (i n : ℕ) → i < n → n ≤ length bytes →
    FollowsRun means old (take i bytes) s → NoneBegins means s (get_or bytes i 0) → (rest : List ℕ) (v : V) → means old (take n bytes ++ rest) v → ⊥
longer_refused means old s bytes i n less within follows none =
    run_refused means old s (take n bytes) i (omega (arith, length-take-le n bytes within)) (rw (take-take i n bytes (omega (arith, less))) follows) (rw (get_or-take n bytes i 0 less) none)

module _ {S T V W : Type 0} (left : S → List ℕ → V → Type 0) (right : T → List ℕ → W → Type 0) (s s' : S) (t t' : T) where
  -- Of two that live one took the run, and no text of the other begins with it; or both took it.
  pub left_alone : (l r : Bool) (run : List ℕ) → IsTrue l → IsTrue r → FollowsRun left s run s' → ((rest : List ℕ) (w : W) → right t (run ++ rest) w → ⊥) →
      (rest : List ℕ) (e : Either V W) → IsChoice left right l false s' t' rest e ↔ IsChoice left right l r s t (run ++ rest) e
  left_alone l r run a b f none rest (Left v) = (λ h. (a, (f rest v).0 h.1), λ h. (a, (f rest v).1 h.1))
  left_alone l r run a b f none rest (Right w) = (λ h. absurd (let k = h.0 in cc), λ h. absurd (none rest w h.1))

  pub right_alone : (l r : Bool) (run : List ℕ) → IsTrue l → IsTrue r → FollowsRun right t run t' → ((rest : List ℕ) (v : V) → left s (run ++ rest) v → ⊥) →
      (rest : List ℕ) (e : Either V W) → IsChoice left right false r s' t' rest e ↔ IsChoice left right l r s t (run ++ rest) e
  right_alone l r run a b f none rest (Left v) = (λ h. absurd (let k = h.0 in cc), λ h. absurd (none rest v h.1))
  right_alone l r run a b f none rest (Right w) = (λ h. (b, (f rest w).0 h.1), λ h. (b, (f rest w).1 h.1))

module _ {S T V W : Type 0} (left : S → List ℕ → V → Type 0) (right : T → List ℕ → W → Type 0) (s : S) (t : T) (bytes : List ℕ) where
  refused_left : (b : ℕ) → NoneBegins left s b → (rest : List ℕ) (e : Either V W) → IsChoice left right true false s t (b ∷ rest) e → ⊥
  refused_left b none rest (Left v) h = none rest v h.1
  refused_left b none rest (Right w) h = let k = h.0 in cc

  -- What stops the one that lives.
  pub left_stops : (l r : Bool) → IsTrue (l || r) → IsFalse r → (p : Pushed) → Stops (left s) bytes p → Stops (λ rest e. IsChoice left right l r s t rest e) bytes p
  left_stops l true a b p h = absurd (cc)
  left_stops false false a b p h = absurd (cc)
  left_stops true false a b All h = h
  left_stops true false a b (Refused n) h = refused_left (get_or bytes n 0) h
  left_stops true false a b (Starved n) h = (h.0, Left h.1, (refl, h.2))

module _ {S T V W : Type 0} (left : S → List ℕ → V → Type 0) (right : T → List ℕ → W → Type 0) (s s' : S) (t t' : T) (l r : Bool) (a : IsTrue l) (b : IsTrue r) where
  both_live : (run : List ℕ) → FollowsRun left s run s' → FollowsRun right t run t' → (rest : List ℕ) (e : Either V W) → IsChoice left right true r s' t' rest e ↔ IsChoice left right l r s t (run ++ rest) e
  both_live run f g rest (Left v) = (λ h. (a, (f rest v).0 h.1), λ h. (refl, (f rest v).1 h.1))
  both_live run f g rest (Right w) = (λ h. (b, (g rest w).0 h.1), λ h. (b, (g rest w).1 h.1))

  -- The right one took as many as the left one, or more.
  pub right_far : (bytes : List ℕ) (used more : ℕ) → used ≤ more → more ≤ length bytes → FollowsRun left s (take used bytes) s' → FollowsRun right t (take more bytes) t' → NoneBegins left s' (get_or bytes used 0) →
      (rest : List ℕ) (e : Either V W) → IsChoice left right (eqb more used) r s' t' rest e ↔ IsChoice left right l r s t (take more bytes ++ rest) e
  right_far bytes used more few within f g none rest e =
      elim (eqb_tells more used) [
        | inl k ↦ rw k.0 (both_live (take more bytes) (rw k.1 f) g rest e)
        | inr k ↦ (let less : used < more = omega (arith, few, k.1) in
            rw k.0 (right_alone left right s s' t t' l r (take more bytes) a b g (longer_refused left s s' bytes used more less within f none) rest e))
      ]
