-- What holds of the empty text with a value.
use Rattle.std.proofs.Common.{◌≡◌, ℕ, ◌↔◌, inl, inr, Bool, true, false, not, ◌||◌, List, [], ◌∷◌, refl, sym, ◌∙◌, IsTrue, IsFalse}
use Rattle.cg_text.specs.Token.{AreBytes, Spells}
use Rattle.cg_join.specs.Ready.{IsOrReady, OrReadyRest}
use Rattle.cg_join.specs.Repeat.{LacksEmpty}
use Rattle.cg_join.specs.Spelling.{spells_as}

no_text : (byte : ℕ) (rest : List ℕ) → byte ∷ rest ≡ [] → ⊥
no_text byte rest e = cc

module _ {V : Type 0} (P : List ℕ → V → Type 0) (value : V) where
  -- Every state can be completed.
  pub or_ready_completes : (begun : Bool) → (rest : List ℕ) × (v : V) × P rest v → (rest : List ℕ) × (v : V) × OrReadyRest begun P value rest v
  or_ready_completes begun c = (c.0, c.1, inl c.2)

  or_ready_from : (e begun : Bool) → (IsTrue e → (v : V) × P [] v) → IsTrue (not begun || e) → (v : V) × OrReadyRest begun P value [] v
  or_ready_from e true f h = let k = f h in (k.0, inl k.1)
  or_ready_from e false f h = (value, inr (refl, (refl, refl)))

  or_ready_to : (e begun : Bool) → ((v : V) × P [] v → IsTrue e) → (v : V) → OrReadyRest begun P value [] v → IsTrue (not begun || e)
  or_ready_to e true f v (inl h) = f (v, h)
  or_ready_to e true f v (inr h) = absurd (let k = h.0 in cc)
  or_ready_to e false f v h = refl

  -- Nothing need follow where no text is begun, or where it can end.
  pub or_ready_ends : (e begun : Bool) → IsTrue e ↔ ((v : V) × P [] v) → IsTrue (not begun || e) ↔ ((v : V) × OrReadyRest begun P value [] v)
  or_ready_ends e begun f = (or_ready_from e begun f.0, λ h. or_ready_to e begun f.1 h.0 h.1)

  -- A rest has one value.
  pub or_ready_one : (begun : Bool) → (IsFalse begun → LacksEmpty P) → ((rest : List ℕ) (v w : V) → P rest v → P rest w → v ≡ w) →
      (rest : List ℕ) (v w : V) → OrReadyRest begun P value rest v → OrReadyRest begun P value rest w → v ≡ w
  or_ready_one begun filled one rest v w (inl h) (inl k) = one rest v w h k
  or_ready_one begun filled one rest v w (inl h) (inr k) = absurd (filled k.0 v (rw k.1.0 at h))
  or_ready_one begun filled one rest v w (inr h) (inl k) = absurd (filled h.0 w (rw h.1.0 at k))
  or_ready_one begun filled one rest v w (inr h) (inr k) = h.1.1 ∙ sym k.1.1

  pub or_ready_bytes : (begun : Bool) → ((rest : List ℕ) (v : V) → P rest v → AreBytes rest) → (rest : List ℕ) (v : V) → OrReadyRest begun P value rest v → AreBytes rest
  or_ready_bytes begun f rest v (inl h) = f rest v h
  or_ready_bytes begun f rest v (inr h) = rw h.1.0 tt

  or_ready_begun : (begun : Bool) (byte : ℕ) (rest : List ℕ) (v : V) → OrReadyRest begun P value (byte ∷ rest) v → P (byte ∷ rest) v
  or_ready_begun begun byte rest v (inl h) = h
  or_ready_begun begun byte rest v (inr h) = absurd (no_text byte rest h.1.0)

  -- Some rest begins with a byte exactly where one of the text does.
  pub or_ready_begins_with : (begun : Bool) (byte : ℕ) → ((rest : List ℕ) × (v : V) × P (byte ∷ rest) v) ↔ ((rest : List ℕ) × (v : V) × OrReadyRest begun P value (byte ∷ rest) v)
  or_ready_begins_with begun byte = (λ h. (h.0, h.1, inl h.2), λ h. (h.0, h.1, or_ready_begun begun byte h.0 h.1 h.2))

  -- Texts by a relation that holds alike.
  pub or_ready_as : (Q : List ℕ → V → Type 0) → ((text : List ℕ) (v : V) → P text v ↔ Q text v) → (text : List ℕ) (v : V) → IsOrReady P value text v ↔ IsOrReady Q value text v
  or_ready_as Q e text v = (
    elim [ inl h ↦ inl ((e text v).0 h) | inr h ↦ inr h ],
    elim [ inl h ↦ inl ((e text v).1 h) | inr h ↦ inr h ],
  )

-- A text that a relation gives, or the empty one.
pub or_ready_spells : {S X V : Type 0} {A : S → List ℕ → V → Type 0} {s : S} {R : List ℕ → V → Type 0} {M : X → List ℕ → V → Type 0} {x : X} (value : V) → Spells A s R → Spells M x (IsOrReady (A s) value) → Spells M x (IsOrReady R value)
or_ready_spells {A = A} {s = s} {R = R} value a m = spells_as m (or_ready_as (A s) value R a.is)
