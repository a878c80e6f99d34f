-- What holds of the line at hand.
use Rattle.std.proofs.Common.{◌≡◌, ℕ, ◌<◌, ◌↔◌, Bool, true, false, List, [], ◌++◌, refl}
use Rattle.cg_text.specs.Token.{AreBytes, HasOneText}
use Rattle.cg_join.specs.ByteLaws.{lines_bytes}
use Rattle.cg_join.specs.Line.{LacksByte}
use Rattle.cg_join.specs.Lines.{AreLinesFrom, AreLinesAfter}
use Rattle.cg_join.specs.LinesLaws.{lines_completes, lines_after_one}
use Rattle.cg_join.specs.LinesState.{at_hand}

pub through : {A B C : Type 0} → A ↔ B → B ↔ C → A ↔ C
through f g = (λ h. g.0 (f.0 h), λ h. f.1 (g.1 h))

module _ {V : Type 0} (P R : List ℕ → V → Type 0) where
  pub hand_lacks : (end : ℕ) (begun : Bool) → LacksByte P end → LacksByte R end → LacksByte (at_hand begun P R) end
  hand_lacks end true p r = p
  hand_lacks end false p r = r

  pub hand_one : (begun : Bool) → HasOneText P → HasOneText R → HasOneText (at_hand begun P R)
  hand_one true p r = p
  hand_one false p r = r

  pub hand_completes : (end : ℕ) (items : List V) (begun : Bool) → (rest : List ℕ) × (v : V) × P rest v → (rest : List ℕ) × (all : List V) × AreLinesAfter items begun (at_hand begun P R) R end rest all
  hand_completes end items true p = lines_completes end P R items true p
  hand_completes end items false p = ([], items ++ [], ([], refl, (refl, refl)))

  pub hand_after_one : (end : ℕ) (items : List V) (begun : Bool) → LacksByte P end → LacksByte R end → HasOneText P → HasOneText R →
      (rest : List ℕ) (v w : List V) → AreLinesAfter items begun (at_hand begun P R) R end rest v → AreLinesAfter items begun (at_hand begun P R) R end rest w → v ≡ w
  hand_after_one end items begun lp lr p r = lines_after_one end (at_hand begun P R) R items begun (hand_lacks end begun lp lr) lr (hand_one begun p r) r

  pub hand_bytes : (end : ℕ) → end < 256 → ((rest : List ℕ) (v : V) → P rest v → AreBytes rest) → ((rest : List ℕ) (v : V) → R rest v → AreBytes rest) →
      (begun : Bool) (text : List ℕ) (vs : List V) → AreLinesFrom begun (at_hand begun P R) R end text vs → AreBytes text
  hand_bytes end small p r true = lines_bytes P R end small p r true
  hand_bytes end small p r false = lines_bytes R R end small r r false

  -- A state that means the same as the line at hand.
  pub hand_same : (begun : Bool) (P' : List ℕ → V → Type 0) → ((rest : List ℕ) (v : V) → P' rest v ↔ at_hand begun P R rest v) → (rest : List ℕ) (v : V) → at_hand begun P' R rest v ↔ at_hand begun P R rest v
  hand_same true P' f = f
  hand_same false P' f = λ rest v. (λ h. h, λ h. h)
