-- What holds of tokens that take a run of bytes at once.
use Rattle.std.proofs.Common.{◌≡◌, ℕ, zero, suc, ◌≤◌, ◌<◌, ◌↔◌, Bool, true, List, [], ◌∷◌, ◌++◌, length, take, append_assoc, arith}
use Rattle.cg_join.specs.Line.{LacksByte}
use Rattle.cg_join.specs.Lines.{AreLinesAfter}
use Rattle.cg_join.specs.LinesLaws.{lines_taken}

module _ {V : Type 0} (end : ℕ) where
  not_end : (P : List ℕ → V → Type 0) (b : ℕ) (rest : List ℕ) (v : V) → LacksByte P end → P (b ∷ rest) v → b ≡ end → ⊥
  not_end P b rest v lacks h e = lacks [] rest v (rw e at h)

  -- Of lines whose first text has the byte and then the run in front.
  pub lines_run : (P P' R : List ℕ → V → Type 0) (b : ℕ) (run : List ℕ) → LacksByte P end → (rest : List ℕ) × (v : V) × P' rest v → ((rest : List ℕ) (v : V) → P' rest v ↔ P (b ∷ run ++ rest) v) → (begun : Bool) →
      (items : List V) (rest : List ℕ) (all : List V) → AreLinesAfter items true P' R end rest all ↔ AreLinesAfter items begun P R end (b ∷ run ++ rest) all
  lines_run P P' R b [] lacks c f begun items rest all =
      lines_taken end P P' R b (not_end P b (c.0) (c.1) lacks ((f (c.0) (c.1)).0 c.2)) f begun items rest all
  lines_run P P' R b (d ∷ run) lacks c f begun items rest all =
      let Q : List ℕ → V → Type 0 = λ r v. P (b ∷ r) v in
      let more = lines_run Q P' R d run (λ front more v h. lacks (b ∷ front) more v h) c f true items rest all in
      let first = lines_taken end P Q R b (not_end P b (d ∷ run ++ c.0) (c.1) lacks ((f (c.0) (c.1)).0 c.2)) (λ r v. (λ h. h, λ h. h)) begun items (d ∷ run ++ rest) all in
      (λ h. first.0 (more.0 h), λ h. more.1 (first.1 h))

  -- The same of a run of some bytes.
  pub lines_scanned : (P P' R : List ℕ → V → Type 0) (run : List ℕ) → 0 < length run → LacksByte P end → (rest : List ℕ) × (v : V) × P' rest v → ((rest : List ℕ) (v : V) → P' rest v ↔ P (run ++ rest) v) → (begun : Bool) →
      (items : List V) (rest : List ℕ) (all : List V) → AreLinesAfter items true P' R end rest all ↔ AreLinesAfter items begun P R end (run ++ rest) all
  lines_scanned P P' R [] some lacks c f begun items rest all = absurd (omega (arith, some))
  lines_scanned P P' R (b ∷ run) some lacks c f begun items rest all = lines_run P P' R b run lacks c f begun items rest all

  -- What is left after a run lacks what the whole lacks.
  pub lacks_run : (P P' : List ℕ → V → Type 0) (run : List ℕ) → ((rest : List ℕ) (v : V) → P' rest v ↔ P (run ++ rest) v) → LacksByte P end → LacksByte P' end
  lacks_run P P' run f lacks front more v h = lacks (run ++ front) more v (rw (append_assoc run front (end ∷ more)) ((f (front ++ end ∷ more) v).0 h))

-- Some bytes from the front of others.
pub some_taken : (n : ℕ) (xs : List ℕ) → 0 < n → n ≤ length xs → 0 < length (take n xs)
some_taken zero xs some within = absurd (omega (arith, some))
some_taken (suc n) [] some within = absurd (omega (arith, within))
some_taken (suc n) (x ∷ xs) some within = omega arith
