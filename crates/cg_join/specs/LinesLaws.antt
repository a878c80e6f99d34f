-- What holds of lines.
use Rattle.std.proofs.Common.{◌≡◌, ℕ, ◌↔◌, Bool, true, false, not, List, [], ◌∷◌, ◌++◌, refl, sym, ◌∙◌, ap, append_assoc, IsTrue}
use Rattle.cg_text.specs.Token.{HasOneText}
use Rattle.cg_join.specs.RepeatLaws.{not_nil, same_front}
use Rattle.cg_join.specs.Line.{LacksByte}
use Rattle.cg_join.specs.Lines.{AreLinesFrom, AreLines, AreLinesAfter}

true_false : true ≡ false → ⊥
true_false e = cc

no_cons : (b : ℕ) (rest : List ℕ) → b ∷ rest ≡ [] → ⊥
no_cons b rest e = cc

module _ {V : Type 0} (end : ℕ) where
  pub lines_one : (P R : List ℕ → V → Type 0) → LacksByte P end → LacksByte R end → HasOneText P → HasOneText R →
      (begun : Bool) (text : List ℕ) (vs ws : List V) → AreLinesFrom begun P R end text vs → AreLinesFrom begun P R end text ws → vs ≡ ws
  lines_one P R lp lr one_p one_r begun text [] [] h k = refl
  lines_one P R lp lr one_p one_r begun text [] (w ∷ ws) h k = absurd (not_nil end k.0 k.1 (sym h.1 ∙ k.2))
  lines_one P R lp lr one_p one_r begun text (v ∷ vs) [] h k = absurd (not_nil end h.0 h.1 (sym k.1 ∙ h.2))
  lines_one P R lp lr one_p one_r begun text (v ∷ vs) (w ∷ ws) h k =
      let s = same_front end P (λ front more v u a b. lp front more u b) h.0 h.1 k.0 k.1 v w (sym h.2 ∙ k.2) h.3 k.3 in
      let head : v ≡ w = one_p k.0 v w (rw s.0 at h.3) k.3 in
      let tail : vs ≡ ws = lines_one R R lr lr one_r one_r false k.1 vs ws (rw s.1 at h.4) k.4 in
      cc

  -- The first text by another relation.
  pub lines_first : (P Q R : List ℕ → V → Type 0) → ((text : List ℕ) (v : V) → P text v → Q text v) → (begun : Bool) (text : List ℕ) (vs : List V) → AreLinesFrom begun P R end text vs → AreLinesFrom begun Q R end text vs
  lines_first P Q R f begun text [] h = h
  lines_first P Q R f begun text (v ∷ vs) h = (h.0, h.1, h.2, f h.0 v h.3, h.4)

  pub lines_same : (P P' R : List ℕ → V → Type 0) → ((rest : List ℕ) (v : V) → P' rest v ↔ P rest v) → (begun : Bool) →
      (items : List V) (rest : List ℕ) (all : List V) → AreLinesAfter items begun P' R end rest all ↔ AreLinesAfter items begun P R end rest all
  lines_same P P' R f begun items rest all =
      (λ h. (h.0, h.1, lines_first P' P R (λ r v. (f r v).0) begun rest h.0 h.2), λ h. (h.0, h.1, lines_first P P' R (λ r v. (f r v).1) begun rest h.0 h.2))

  -- What the token at hand takes.
  take_at : (P P' R : List ℕ → V → Type 0) (b : ℕ) → (b ≡ end → ⊥) → ((rest : List ℕ) (v : V) → P' rest v ↔ P (b ∷ rest) v) →
      (rest : List ℕ) (v : V) (vs : List V) (front back : List ℕ) → b ∷ rest ≡ front ++ end ∷ back → P front v → AreLinesFrom false R R end back vs → AreLinesFrom true P' R end rest (v ∷ vs)
  take_at P P' R b ne f rest v vs [] back e h k = absurd (ne (cc))
  take_at P P' R b ne f rest v vs (x ∷ front) back e h k =
      let s : x ≡ b = cc in
      (front, back, cc, (f front v).1 (rw s at h), k)

  taken_to : (P P' R : List ℕ → V → Type 0) (b : ℕ) → (b ≡ end → ⊥) → ((rest : List ℕ) (v : V) → P' rest v ↔ P (b ∷ rest) v) → (begun : Bool) →
      (rest : List ℕ) (vs : List V) → AreLinesFrom begun P R end (b ∷ rest) vs → AreLinesFrom true P' R end rest vs
  taken_to P P' R b ne f begun rest [] h = absurd (no_cons b rest h.1)
  taken_to P P' R b ne f begun rest (v ∷ vs) h = take_at P P' R b ne f rest v vs h.0 h.1 h.2 h.3 h.4

  taken_from : (P P' R : List ℕ → V → Type 0) (b : ℕ) → ((rest : List ℕ) (v : V) → P' rest v ↔ P (b ∷ rest) v) → (begun : Bool) →
      (rest : List ℕ) (vs : List V) → AreLinesFrom true P' R end rest vs → AreLinesFrom begun P R end (b ∷ rest) vs
  taken_from P P' R b f begun rest [] h = absurd (true_false h.0)
  taken_from P P' R b f begun rest (v ∷ vs) h = (b ∷ h.0, h.1, ap (λ x. b ∷ x) h.2, (f h.0 v).0 h.3, h.4)

  pub lines_taken : (P P' R : List ℕ → V → Type 0) (b : ℕ) → (b ≡ end → ⊥) → ((rest : List ℕ) (v : V) → P' rest v ↔ P (b ∷ rest) v) → (begun : Bool) →
      (items : List V) (rest : List ℕ) (all : List V) → AreLinesAfter items true P' R end rest all ↔ AreLinesAfter items begun P R end (b ∷ rest) all
  lines_taken P P' R b ne f begun items rest all =
      (λ h. (h.0, h.1, taken_from P P' R b f begun rest h.0 h.2), λ h. (h.0, h.1, taken_to P P' R b ne f begun rest h.0 h.2))

  -- The end of a line, where the token at hand has ended.
  next_at : (P F R : List ℕ → V → Type 0) (v : V) → P [] v → HasOneText P → LacksByte P end → ((rest : List ℕ) (u : V) → R rest u → F rest u) →
      (items : List V) (rest : List ℕ) (u : V) (vs : List V) (front back : List ℕ) → end ∷ rest ≡ front ++ end ∷ back → P front u → AreLinesFrom false R R end back vs →
      (us : List V) × (items ++ u ∷ vs ≡ (items ++ v ∷ []) ++ us) × AreLinesFrom false F R end rest us
  next_at P F R v ended one lacks f items rest u vs [] back e h k =
      let same : u ≡ v = one [] u v h ended in
      let tail : back ≡ rest = cc in
      (vs, rw (same, append_assoc items (v ∷ []) vs) refl, lines_first R F R f false rest vs (rw tail at k))
  next_at P F R v ended one lacks f items rest u vs (x ∷ front) back e h k =
      let s : x ≡ end = cc in
      absurd (lacks [] front u (rw s at h))

  next_some : (P F R : List ℕ → V → Type 0) (v : V) → P [] v → HasOneText P → LacksByte P end → ((rest : List ℕ) (u : V) → R rest u → F rest u) → (begun : Bool) →
      (items : List V) (rest : List ℕ) (us : List V) → AreLinesFrom begun P R end (end ∷ rest) us → (vs : List V) × (items ++ us ≡ (items ++ v ∷ []) ++ vs) × AreLinesFrom false F R end rest vs
  next_some P F R v ended one lacks f begun items rest [] h = absurd (no_cons end rest h.1)
  next_some P F R v ended one lacks f begun items rest (u ∷ us) h = next_at P F R v ended one lacks f items rest u us h.0 h.1 h.2 h.3 h.4

  pub lines_next : (P F R : List ℕ → V → Type 0) (v : V) → P [] v → HasOneText P → LacksByte P end → ((rest : List ℕ) (u : V) → F rest u ↔ R rest u) → (begun : Bool) →
      (items : List V) (rest : List ℕ) (all : List V) → AreLinesAfter (items ++ v ∷ []) false F R end rest all ↔ AreLinesAfter items begun P R end (end ∷ rest) all
  lines_next P F R v ended one lacks f begun items rest all = (
    λ h. (v ∷ h.0, h.1 ∙ append_assoc items (v ∷ []) h.0, ([], rest, refl, ended, lines_first F R R (λ r u. (f r u).0) false rest h.0 h.2)),
    λ h. (let k = next_some P F R v ended one lacks (λ r u. (f r u).1) begun items rest h.0 h.2 in (k.0, h.1 ∙ k.1, k.2)),
  )

  -- What is refused.
  none_at : (P : List ℕ → V → Type 0) (b : ℕ) → ((rest : List ℕ) (u : V) → P (b ∷ rest) u → ⊥) → (b ≡ end → (v : V) → P [] v → ⊥) →
      (rest : List ℕ) (v : V) (front back : List ℕ) → b ∷ rest ≡ front ++ end ∷ back → P front v → ⊥
  none_at P b none ended rest v [] back e h = ended (cc) v h
  none_at P b none ended rest v (x ∷ front) back e h =
      let s : x ≡ b = cc in
      none front v (rw s at h)

  none_of : (P R : List ℕ → V → Type 0) (b : ℕ) → ((rest : List ℕ) (u : V) → P (b ∷ rest) u → ⊥) → (b ≡ end → (v : V) → P [] v → ⊥) → (begun : Bool) →
      (rest : List ℕ) (vs : List V) → AreLinesFrom begun P R end (b ∷ rest) vs → ⊥
  none_of P R b none ended begun rest [] h = no_cons b rest h.1
  none_of P R b none ended begun rest (v ∷ vs) h = none_at P b none ended rest v h.0 h.1 h.2 h.3

  pub lines_none : (P R : List ℕ → V → Type 0) (b : ℕ) → ((rest : List ℕ) (u : V) → P (b ∷ rest) u → ⊥) → (b ≡ end → (v : V) → P [] v → ⊥) → (begun : Bool) →
      (items : List V) (rest : List ℕ) (all : List V) → AreLinesAfter items begun P R end (b ∷ rest) all → ⊥
  lines_none P R b none ended begun items rest all h = none_of P R b none ended begun rest h.0 h.2

  -- The three laws.
  pub lines_completes : (P R : List ℕ → V → Type 0) (items : List V) (begun : Bool) → ((rest : List ℕ) × (v : V) × P rest v) → (rest : List ℕ) × (all : List V) × AreLinesAfter items begun P R end rest all
  lines_completes P R items begun c = (c.0 ++ end ∷ [], items ++ c.1 ∷ [], (c.1 ∷ [], refl, (c.0, [], refl, c.2, (refl, refl))))

  nil_lines : (P R : List ℕ → V → Type 0) (begun : Bool) (vs : List V) → AreLinesFrom begun P R end [] vs → IsTrue (not begun)
  nil_lines P R begun [] h = rw h.0 refl
  nil_lines P R begun (v ∷ vs) h = absurd (not_nil end h.0 h.1 h.2)

  ended_lines : (P R : List ℕ → V → Type 0) (items : List V) (begun : Bool) → IsTrue (not begun) → (all : List V) × AreLinesAfter items begun P R end [] all
  ended_lines P R items true h = absurd (cc)
  ended_lines P R items false h = (items ++ [], ([], refl, (refl, refl)))

  pub lines_ends : (P R : List ℕ → V → Type 0) (items : List V) (begun : Bool) → IsTrue (not begun) ↔ ((all : List V) × AreLinesAfter items begun P R end [] all)
  lines_ends P R items begun = (ended_lines P R items begun, λ h. nil_lines P R begun h.1.0 h.1.2)

  pub lines_after_one : (P R : List ℕ → V → Type 0) (items : List V) (begun : Bool) → LacksByte P end → LacksByte R end → HasOneText P → HasOneText R →
      (rest : List ℕ) (v w : List V) → AreLinesAfter items begun P R end rest v → AreLinesAfter items begun P R end rest w → v ≡ w
  lines_after_one P R items begun lp lr one_p one_r rest v w h k = h.1 ∙ ap (λ x. items ++ x) (lines_one P R lp lr one_p one_r begun rest h.0 k.0 h.2 k.2) ∙ sym k.1

  -- Which bytes begin a rest.
  begun_at : (P : List ℕ → V → Type 0) (b : ℕ) → (b ≡ end → ⊥) → (rest : List ℕ) (v : V) (front back : List ℕ) → b ∷ rest ≡ front ++ end ∷ back → P front v → (more : List ℕ) × (u : V) × P (b ∷ more) u
  begun_at P b ne rest v [] back e h = absurd (ne (cc))
  begun_at P b ne rest v (x ∷ front) back e h =
      let s : x ≡ b = cc in
      (front, v, rw s at h)

  begun_of : (P R : List ℕ → V → Type 0) (b : ℕ) → (b ≡ end → ⊥) → (begun : Bool) (rest : List ℕ) (vs : List V) → AreLinesFrom begun P R end (b ∷ rest) vs → (more : List ℕ) × (u : V) × P (b ∷ more) u
  begun_of P R b ne begun rest [] h = absurd (no_cons b rest h.1)
  begun_of P R b ne begun rest (v ∷ vs) h = begun_at P b ne rest v h.0 h.1 h.2 h.3

  -- Of a byte other than the end, those of the token at hand.
  pub lines_begins : (P R : List ℕ → V → Type 0) (items : List V) (begun : Bool) (b : ℕ) → (b ≡ end → ⊥) →
      ((more : List ℕ) × (u : V) × P (b ∷ more) u) ↔ ((rest : List ℕ) × (all : List V) × AreLinesAfter items begun P R end (b ∷ rest) all)
  lines_begins P R items begun b ne = (
    λ h. (h.0 ++ end ∷ [], items ++ h.1 ∷ [], (h.1 ∷ [], refl, (b ∷ h.0, [], refl, h.2, (refl, refl)))),
    λ h. begun_of P R b ne begun h.0 h.2.0 h.2.2,
  )

  over_at : (P : List ℕ → V → Type 0) → LacksByte P end → (rest : List ℕ) (v : V) (front back : List ℕ) → end ∷ rest ≡ front ++ end ∷ back → P front v → (u : V) × P [] u
  over_at P lacks rest v [] back e h = (v, h)
  over_at P lacks rest v (x ∷ front) back e h =
      let s : x ≡ end = cc in
      absurd (lacks [] front v (rw s at h))

  over_of : (P R : List ℕ → V → Type 0) → LacksByte P end → (begun : Bool) (rest : List ℕ) (vs : List V) → AreLinesFrom begun P R end (end ∷ rest) vs → (u : V) × P [] u
  over_of P R lacks begun rest [] h = absurd (no_cons end rest h.1)
  over_of P R lacks begun rest (v ∷ vs) h = over_at P lacks rest v h.0 h.1 h.2 h.3

  -- The end, where the token at hand has ended.
  pub lines_over : (P R : List ℕ → V → Type 0) (items : List V) (begun : Bool) → LacksByte P end →
      ((u : V) × P [] u) ↔ ((rest : List ℕ) × (all : List V) × AreLinesAfter items begun P R end (end ∷ rest) all)
  lines_over P R items begun lacks = (
    λ h. ([], items ++ h.0 ∷ [], (h.0 ∷ [], refl, ([], [], refl, h.1, (refl, refl)))),
    λ h. over_of P R lacks begun h.0 h.2.0 h.2.2,
  )

  pub lines_new : (F R : List ℕ → V → Type 0) → ((rest : List ℕ) (v : V) → F rest v ↔ R rest v) → (rest : List ℕ) (all : List V) → AreLinesAfter [] false F R end rest all ↔ AreLinesFrom false R R end rest all
  lines_new F R f rest all =
      (λ h. rw h.1 (lines_first F R R (λ r v. (f r v).0) false rest h.0 h.2), λ h. (all, refl, lines_first R F R (λ r v. (f r v).1) false rest all h))

  pub lacks_taken : (P P' : List ℕ → V → Type 0) (b : ℕ) → ((rest : List ℕ) (v : V) → P' rest v ↔ P (b ∷ rest) v) → LacksByte P end → LacksByte P' end
  lacks_taken P P' b f lacks front more v h = lacks (b ∷ front) more v ((f (front ++ end ∷ more) v).0 h)

  pub lacks_same : (P P' : List ℕ → V → Type 0) → ((rest : List ℕ) (v : V) → P' rest v ↔ P rest v) → LacksByte P end → LacksByte P' end
  lacks_same P P' f lacks front more v h = lacks front more v ((f (front ++ end ∷ more) v).0 h)

-- Lines by a relation that holds alike.
pub lines_as : {V : Type 0} {P Q : List ℕ → V → Type 0} (end : ℕ) → ((text : List ℕ) (v : V) → P text v → Q text v) → (text : List ℕ) (vs : List V) → AreLines P end text vs → AreLines Q end text vs
lines_as end f text [] h = h
lines_as end f text (v ∷ vs) h = (h.0, h.1, h.2, f h.0 v h.3, lines_as end f h.1 vs h.4)
