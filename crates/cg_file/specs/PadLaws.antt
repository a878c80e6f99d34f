-- What holds of a pad and what follows it.
use Rattle.std.proofs.Common.{◌≡◌, ◌≢◌, ℕ, ◌↔◌, inl, inr, Bool, true, false, List, [], ◌∷◌, refl, sym, ◌∙◌, IsTrue, IsFalse, arith}
use Rattle.cg_text.specs.Token.{AreBytes, HasOneText}
use Rattle.cg_join.specs.SequenceLaws.{both_same}
use Rattle.cg_file.specs.Pad.{IsUnspaced, IsLed, IsPadded, PadRest, is_known, pad_ends}
use Rattle.cg_file.specs.declared.pad.Padding.{Padding}
use Rattle.cg_file.specs.declared.pad.Padding.TheVariants.{Before, Perhaps, Known}

module _ {V : Type 0} (R : List ℕ → V → Type 0) (ready : V) where
  -- What follows one space: the text, or with a pad what a pad leads.
  abbrev AfterSpace : Bool → List ℕ → V → Type 0
  AfterSpace false rest w = R rest w
  AfterSpace true rest w = IsLed R ready rest w

  led_spaced : (rest : List ℕ) (w : V) → IsLed R ready (32 ∷ rest) w → R rest w
  led_spaced rest w (inl h) = absurd (let e : 32 ∷ rest ≡ [] = h.0 in cc)
  led_spaced rest w (inr h) = let e : 32 ∷ rest ≡ 32 ∷ h.0 = h.1 in let s : rest ≡ h.0 = cc in rw s h.2

  led_begun : (b : ℕ) (rest : List ℕ) (w : V) → IsLed R ready (b ∷ rest) w → b ≡ 32
  led_begun b rest w (inl h) = absurd (let e : b ∷ rest ≡ [] = h.0 in cc)
  led_begun b rest w (inr h) = let e : b ∷ rest ≡ 32 ∷ h.0 = h.1 in cc

  spaced_from : (rest : List ℕ) (pad : Bool) (w : V) → IsPadded R ready (32 ∷ rest) (pad, w) → AfterSpace pad rest w
  spaced_from rest false w h = led_spaced rest w (rw h.1 h.2)
  spaced_from rest true w h = let e : 32 ∷ rest ≡ 32 ∷ h.0 = h.1 in let s : rest ≡ h.0 = cc in rw s h.2

  spaced_to : (rest : List ℕ) (pad : Bool) (w : V) → AfterSpace pad rest w → IsPadded R ready (32 ∷ rest) (pad, w)
  spaced_to rest false w h = (32 ∷ rest, refl, inr (rest, refl, h))
  spaced_to rest true w h = (rest, refl, h)

  -- ---- The laws of a state

  pub pad_completes : (padding : Padding) → ((rest : List ℕ) × (w : V) × R rest w) → (rest : List ℕ) × (v : Bool × V) × PadRest padding R ready rest v
  pad_completes Before c = ([], (false, ready), ([], refl, inl (refl, refl)))
  pad_completes Perhaps c = ([], (true, ready), ([], refl, inl (refl, refl)))
  pad_completes (Known pad) c = (c.0, (pad, c.1), (refl, c.2))

  pub pad_ends_is : (padding : Padding) (e : Bool) → IsTrue e ↔ ((w : V) × R [] w) → IsTrue (pad_ends padding e) ↔ ((v : Bool × V) × PadRest padding R ready [] v)
  pad_ends_is Before e f = (λ _. ((false, ready), ([], refl, inl (refl, refl))), λ _. refl)
  pad_ends_is Perhaps e f = (λ _. ((true, ready), ([], refl, inl (refl, refl))), λ _. refl)
  pad_ends_is (Known pad) e f = (λ h. (let k = f.0 h in ((pad, k.0), (refl, k.1))), λ h. f.1 (h.0.1, h.1.1))

  led_one : HasOneText R → (text : List ℕ) (v w : V) → IsLed R ready text v → IsLed R ready text w → v ≡ w
  led_one one text v w (inl h) (inl k) = h.1 ∙ sym k.1
  led_one one text v w (inl h) (inr k) = absurd (let e : [] ≡ 32 ∷ k.0 = sym h.0 ∙ k.1 in cc)
  led_one one text v w (inr h) (inl k) = absurd (let e : [] ≡ 32 ∷ h.0 = sym k.0 ∙ h.1 in cc)
  led_one one text v w (inr h) (inr k) =
      let e : 32 ∷ h.0 ≡ 32 ∷ k.0 = sym h.1 ∙ k.1 in
      let s : h.0 ≡ k.0 = cc in
      one k.0 v w (rw s at h.2) k.2

  -- What follows a space that is a pad isn't what follows one that is none.
  not_both : IsUnspaced R → (rest : List ℕ) (v w : V) → IsLed R ready rest v → R rest w → ⊥
  not_both none rest v w (inl h) k = none.0 w (rw h.0 at k)
  not_both none rest v w (inr h) k = none.1 h.0 w (rw h.1 at k)

  spaced_one : IsUnspaced R → HasOneText R → (rest : List ℕ) (p q : Bool) (v w : V) → AfterSpace p rest v → AfterSpace q rest w → ◌≡◌ {A = Bool × V} (p, v) (q, w)
  spaced_one none one rest false false v w h k = let e : v ≡ w = one rest v w h k in cc
  spaced_one none one rest true true v w h k = let e : v ≡ w = led_one one rest v w h k in cc
  spaced_one none one rest true false v w h k = absurd (not_both none rest v w h k)
  spaced_one none one rest false true v w h k = absurd (not_both none rest w v k h)

  led_none : (w : V) → IsLed R ready [] w → w ≡ ready
  led_none w (inl h) = h.1
  led_none w (inr h) = absurd (let e : [] ≡ 32 ∷ h.0 = h.1 in cc)

  padded_begun : (b : ℕ) (rest : List ℕ) (pad : Bool) (v : V) → IsPadded R ready (b ∷ rest) (pad, v) → b ≡ 32
  padded_begun b rest false v h = led_begun b rest v (rw h.1 h.2)
  padded_begun b rest true v h = let e : b ∷ rest ≡ 32 ∷ h.0 = h.1 in cc

  padded_none : (pad : Bool) (v : V) → IsPadded R ready [] (pad, v) → (pad ≡ false) × (v ≡ ready)
  padded_none false v h = (refl, led_none v (rw (sym h.1) at h.2))
  padded_none true v h = absurd (let e : [] ≡ 32 ∷ h.0 = h.1 in cc)

  padded_one : IsUnspaced R → HasOneText R → (text : List ℕ) (v w : Bool × V) → IsPadded R ready text v → IsPadded R ready text w → v ≡ w
  padded_one none one [] v w h k =
      let a = padded_none (v.0) (v.1) h in
      let b = padded_none (w.0) (w.1) k in
      both_same (a.0 ∙ sym b.0, a.1 ∙ sym b.1)
  padded_one none one (b ∷ rest) v w h k =
      let s : b ≡ 32 = padded_begun b rest (v.0) (v.1) h in
      spaced_one none one rest (v.0) (w.0) (v.1) (w.1) (spaced_from rest (v.0) (v.1) (rw s at h)) (spaced_from rest (w.0) (w.1) (rw s at k))

  pub pad_one : (padding : Padding) → (IsFalse (is_known padding) → IsUnspaced R) → HasOneText R → (rest : List ℕ) (v w : Bool × V) → PadRest padding R ready rest v → PadRest padding R ready rest w → v ≡ w
  pad_one Before none one rest v w h k = padded_one (none refl) one rest v w h k
  pad_one Perhaps none one rest v w h k = padded_one (none refl) one (32 ∷ rest) v w h k
  pad_one (Known pad) none one rest v w h k = both_same (h.0 ∙ sym k.0, one rest (v.1) (w.1) h.1 k.1)

  led_bytes : ((text : List ℕ) (v : V) → R text v → AreBytes text) → (text : List ℕ) (v : V) → IsLed R ready text v → AreBytes text
  led_bytes bytes text v (inl h) = rw h.0 tt
  led_bytes bytes text v (inr h) = rw h.1 (omega arith, bytes h.0 v h.2)

  padded_bytes : ((text : List ℕ) (v : V) → R text v → AreBytes text) → (text : List ℕ) (pad : Bool) (v : V) → IsPadded R ready text (pad, v) → AreBytes text
  padded_bytes bytes text false v h = led_bytes bytes text v (rw h.1 h.2)
  padded_bytes bytes text true v h = rw h.1 (omega arith, led_bytes bytes h.0 v h.2)

  pub pad_bytes : (padding : Padding) → ((text : List ℕ) (v : V) → R text v → AreBytes text) → (rest : List ℕ) (v : Bool × V) → PadRest padding R ready rest v → AreBytes rest
  pad_bytes Before bytes rest v h = padded_bytes bytes rest (v.0) (v.1) h
  pad_bytes Perhaps bytes rest v h = (padded_bytes bytes (32 ∷ rest) (v.0) (v.1) h).1
  pad_bytes (Known pad) bytes rest v h = bytes rest (v.1) h.1

  -- ---- Steps

  pub before_refused : (b : ℕ) → b ≢ 32 → (rest : List ℕ) (v : Bool × V) → PadRest Before R ready (b ∷ rest) v → ⊥
  before_refused b n rest v h = n (padded_begun b rest (v.0) (v.1) h)

  -- A second space says that there is a pad.
  pub second_space : IsUnspaced R → (rest : List ℕ) (v : Bool × V) → PadRest (Known true) R ready rest v ↔ PadRest Perhaps R ready (32 ∷ rest) v
  second_space none rest v = (
    λ h. (let k : AfterSpace (v.0) (32 ∷ rest) (v.1) = rw h.0 (inr (rest, refl, h.1)) in spaced_to (32 ∷ rest) (v.0) (v.1) k),
    λ h. after none rest (v.0) (v.1) (spaced_from (32 ∷ rest) (v.0) (v.1) h),
  )
    where
      after : IsUnspaced R → (rest : List ℕ) (pad : Bool) (w : V) → AfterSpace pad (32 ∷ rest) w → (pad ≡ true) × R rest w
      after none rest false w h = absurd (none.1 rest w h)
      after none rest true w h = (refl, led_spaced rest w h)

  after_byte : (b : ℕ) → b ≢ 32 → (rest : List ℕ) (pad : Bool) (w : V) → AfterSpace pad (b ∷ rest) w → (pad ≡ false) × R (b ∷ rest) w
  after_byte b n rest false w h = (refl, h)
  after_byte b n rest true w h = absurd (n (led_begun b rest w h))

  -- Another byte says that there is none.
  pub other_byte : (Q : List ℕ → V → Type 0) (b : ℕ) → b ≢ 32 → ((rest : List ℕ) (w : V) → Q rest w ↔ R (b ∷ rest) w) → (rest : List ℕ) (v : Bool × V) → PadRest (Known false) Q ready rest v ↔ PadRest Perhaps R ready (b ∷ rest) v
  other_byte Q b n f rest v = (
    λ h. (let k : AfterSpace (v.0) (b ∷ rest) (v.1) = rw h.0 ((f rest (v.1)).0 h.1) in spaced_to (b ∷ rest) (v.0) (v.1) k),
    λ h. (let k = after_byte b n rest (v.0) (v.1) (spaced_from (b ∷ rest) (v.0) (v.1) h) in (k.0, (f rest (v.1)).1 k.1)),
  )

  -- ---- Which bytes begin a rest

  pub before_begins : (n : Bool) (b : ℕ) → IsTrue n ↔ (b ≡ 32) → IsTrue n ↔ ((rest : List ℕ) × (v : Bool × V) × PadRest Before R ready (b ∷ rest) v)
  before_begins n b f = (
    λ h. ([], (true, ready), ([], rw (f.0 h) refl, inl (refl, refl))),
    λ h. f.1 (padded_begun b h.0 (h.1.0) (h.1.1) h.2),
  )

  pub space_begins : (n : Bool) (b : ℕ) → IsTrue n → b ≡ 32 → ((rest : List ℕ) × (w : V) × R rest w) → IsTrue n ↔ ((rest : List ℕ) × (v : Bool × V) × PadRest Perhaps R ready (b ∷ rest) v)
  space_begins n b t e c = (λ h. (c.0, (true, c.1), rw e (spaced_to (32 ∷ c.0) true c.1 (inr (c.0, refl, c.2)))), λ h. t)

  pub other_begins : (n : Bool) (b : ℕ) → b ≢ 32 → IsTrue n ↔ ((rest : List ℕ) × (w : V) × R (b ∷ rest) w) → IsTrue n ↔ ((rest : List ℕ) × (v : Bool × V) × PadRest Perhaps R ready (b ∷ rest) v)
  other_begins n b other f = (
    λ h. (let k = f.0 h in (k.0, (false, k.1), spaced_to (b ∷ k.0) false k.1 k.2)),
    λ h. f.1 (h.0, h.1.1, (after_byte b other h.0 (h.1.0) (h.1.1) (spaced_from (b ∷ h.0) (h.1.0) (h.1.1) h.2)).1),
  )

  pub known_begins : (n : Bool) (b : ℕ) (pad : Bool) → IsTrue n ↔ ((rest : List ℕ) × (w : V) × R (b ∷ rest) w) → IsTrue n ↔ ((rest : List ℕ) × (v : Bool × V) × PadRest (Known pad) R ready (b ∷ rest) v)
  known_begins n b pad f = (λ h. (let k = f.0 h in (k.0, (pad, k.1), (refl, k.2))), λ h. f.1 (h.0, h.1.1, h.2.1))
