-- What holds of a text or none.
use Rattle.std.proofs.Common.{◌≡◌, ℕ, ◌↔◌, Bool, true, false, not, ◌||◌, List, [], ◌∷◌, Option, Some, None, refl, ap, IsTrue, IsFalse}
use Rattle.cg_text.specs.Token.{AreBytes, Spells}
use Rattle.cg_join.specs.Maybe.{IsMaybe, MaybeRest}
use Rattle.cg_join.specs.Repeat.{LacksEmpty}
use Rattle.cg_join.specs.Spelling.{spells_as}

not_begun : (byte : ℕ) (rest : List ℕ) → byte ∷ rest ≡ [] → ⊥
not_begun byte rest e = cc

module _ {V : Type 0} (P : List ℕ → V → Type 0) where
  -- Every state can be completed.
  pub maybe_completes : (begun : Bool) → (rest : List ℕ) × (v : V) × P rest v → (rest : List ℕ) × (v : Option V) × MaybeRest begun P rest v
  maybe_completes begun c = (c.0, Some c.1, c.2)

  maybe_from : (e begun : Bool) → (IsTrue e → (v : V) × P [] v) → IsTrue (not begun || e) → (v : Option V) × MaybeRest begun P [] v
  maybe_from e true f h = let k = f h in (Some k.0, k.1)
  maybe_from e false f h = (None, (refl, refl))

  maybe_to : (e begun : Bool) → ((v : V) × P [] v → IsTrue e) → (v : Option V) → MaybeRest begun P [] v → IsTrue (not begun || e)
  maybe_to e true f None h = absurd (let k = h.0 in cc)
  maybe_to e true f (Some v) h = f (v, h)
  maybe_to e false f v h = refl

  -- Nothing need follow where none is begun, or where it can end.
  pub maybe_ends : (e begun : Bool) → IsTrue e ↔ ((v : V) × P [] v) → IsTrue (not begun || e) ↔ ((v : Option V) × MaybeRest begun P [] v)
  maybe_ends e begun f = (maybe_from e begun f.0, λ h. maybe_to e begun f.1 h.0 h.1)

  -- A rest has one value.
  pub maybe_one : (begun : Bool) → (IsFalse begun → LacksEmpty P) → ((rest : List ℕ) (v w : V) → P rest v → P rest w → v ≡ w) →
      (rest : List ℕ) (v w : Option V) → MaybeRest begun P rest v → MaybeRest begun P rest w → v ≡ w
  maybe_one begun filled one rest None None h k = refl
  maybe_one begun filled one rest None (Some w) h k = absurd (filled h.0 w (rw h.1 at k))
  maybe_one begun filled one rest (Some v) None h k = absurd (filled k.0 v (rw k.1 at h))
  maybe_one begun filled one rest (Some v) (Some w) h k = ap Some (one rest v w h k)

  pub maybe_bytes : (begun : Bool) → ((rest : List ℕ) (v : V) → P rest v → AreBytes rest) → (rest : List ℕ) (v : Option V) → MaybeRest begun P rest v → AreBytes rest
  maybe_bytes begun f rest None h = rw h.1 tt
  maybe_bytes begun f rest (Some v) h = f rest v h

  -- Some rest begins with a byte exactly where one of the text does.
  pub maybe_begins : (begun : Bool) (byte : ℕ) → ((rest : List ℕ) × (v : V) × P (byte ∷ rest) v) ↔ ((rest : List ℕ) × (v : Option V) × MaybeRest begun P (byte ∷ rest) v)
  maybe_begins begun byte = (λ h. (h.0, Some h.1, h.2), λ h. begun_with h.0 h.1 h.2)
    where
      begun_with : (rest : List ℕ) (v : Option V) → MaybeRest begun P (byte ∷ rest) v → (rest : List ℕ) × (v : V) × P (byte ∷ rest) v
      begun_with rest None h = absurd (not_begun byte rest h.1)
      begun_with rest (Some v) h = (rest, v, h)

  -- Texts by a relation that holds alike.
  pub maybe_as : (Q : List ℕ → V → Type 0) → ((text : List ℕ) (v : V) → P text v ↔ Q text v) → (text : List ℕ) (v : Option V) → IsMaybe P text v ↔ IsMaybe Q text v
  maybe_as Q e text None = (λ h. h, λ h. h)
  maybe_as Q e text (Some v) = e text v

-- A text that a relation gives, or none.
pub maybe_spells : {S X V : Type 0} {A : S → List ℕ → V → Type 0} {s : S} {R : List ℕ → V → Type 0} {M : X → List ℕ → Option V → Type 0} {x : X} → Spells A s R → Spells M x (IsMaybe (A s)) → Spells M x (IsMaybe R)
maybe_spells {A = A} {s = s} {R = R} a m = spells_as m (maybe_as (A s) R a.is)
