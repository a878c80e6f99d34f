-- What holds of bytes that are pushed into one token and then another.
use Rattle.std.proofs.Common.{◌≡◌, ℕ, zero, suc, ◌+◌, ◌<◌, ◌↔◌, Bool, true, false, List, [], ◌∷◌, ◌++◌, length, take, drop, get_or, refl, ◌∙◌, ap, arith, append_assoc, nat_lt, lt-ltb, length-drop, IsTrue, IsFalse}
use Rattle.std.proofs.lemmas.List.{get_or-drop, get_or-take, length-take-le}
use Rattle.cg_text.specs.Pushed.{IsWithin, Stops, after_run, run_of, took_some}
use Rattle.cg_text.specs.PushLaws.{run_after_run, stops_after}
use Rattle.cg_text.specs.Scan.{FollowsRun}
use Rattle.cg_text.specs.Token.{Begins, Completes, Ends, NoneBegins, Same}
use Rattle.cg_text.specs.declared.pushed.Pushed.{Pushed}
use Rattle.cg_text.specs.declared.pushed.Pushed.TheVariants.{All, Refused, Starved}
use Rattle.cg_join.specs.Join.{AreApart, IsPair, IsSequence}
use Rattle.cg_join.specs.RunLaws.{apart_run, pair_run}
use Rattle.cg_join.specs.SequenceLaws.{pair_begins_second, pair_none_begins}

module _ {S T V W : Type 0} (first : S → List ℕ → V → Type 0) (second : T → List ℕ → W → Type 0) where
  handed_from : (s : S) (t : T) (b : ℕ) (rest : List ℕ) (v : V) (w : W) → NoneBegins first s b → (front back : List ℕ) → b ∷ rest ≡ front ++ back → first s front v → second t back w → first s [] v × second t (b ∷ rest) w
  handed_from s t b rest v w none [] back e h k = (h, rw e k)
  handed_from s t b rest v w none (x ∷ front) back e h k = absurd (
      let same : x ≡ b = cc in
      none front v (rw same at h))

  -- Where the first refuses a byte, a rest that begins with it is one of the second, and the first ends.
  handed : (s : S) (t t' : T) (run : List ℕ) → 0 < length run → NoneBegins first s (get_or run 0 0) → FollowsRun second t run t' → (rest : List ℕ) (v : V) (w : W) →
      (first s [] v × second t' rest w) ↔ IsPair first second s t (run ++ rest) v w
  handed s t t' [] some none f rest v w = absurd (omega (arith, some))
  handed s t t' (b ∷ run) some none f rest v w = (
    λ h. record { front = []; back = b ∷ run ++ rest; whole = refl; begins = h.0; ends = (f rest w).0 h.1 },
    λ h. (let p = handed_from s t b (run ++ rest) v w none h.front h.back h.whole h.begins h.ends in (p.0, (f rest w).1 p.1)),
  )

  pair_same : (s : S) (t t' : T) → Same second t t' → (rest : List ℕ) (v : V) (w : W) → IsPair first second s t' rest v w ↔ IsPair first second s t rest v w
  pair_same s t t' same rest v w = (
    λ h. record { front = h.front; back = h.back; whole = h.whole; begins = h.begins; ends = (same h.back w).0 h.ends },
    λ h. record { front = h.front; back = h.back; whole = h.whole; begins = h.begins; ends = (same h.back w).1 h.ends },
  )

  -- What the first takes leaves the two apart, and so does a second that means the same.
  pub apart_second : (s : S) (t t' : T) → Same second t t' → AreApart first second s t → AreApart first second s t'
  apart_second s t t' same apart front more back b v u w h k l = apart front more back b v u w h k ((same (b ∷ back) w).0 l)

  -- The first took so many bytes and refuses the next, and the rest was pushed into the second.
  module _ (s s' : S) (t t' : T) (bytes back : List ℕ) (used : ℕ) (e : back ≡ drop used bytes) (within : used < length bytes)
      (apart : AreApart first second s t) (completes : Completes first s') (f : FollowsRun first s (take used bytes) s')
      (none : NoneBegins first s' (get_or bytes used 0)) where
    none_at : (xs : List ℕ) → get_or xs 0 0 ≡ get_or bytes used 0 → NoneBegins first s' (get_or xs 0 0)
    none_at xs same = rw same none

    at_back : get_or back 0 0 ≡ get_or bytes used 0
    at_back =
        let same : used + 0 ≡ used = omega arith in
        ap (λ (xs : List ℕ). get_or xs 0 0) e ∙ get_or-drop used bytes 0 0 ∙ ap (λ n. get_or bytes n 0) same

    some_back : 0 < length back
    some_back = omega (arith, within, ap length e ∙ length-drop used bytes)

    moved : (n : ℕ) → n < length back → FollowsRun second t (take n back) t' → (rest : List ℕ) (v : V) (w : W) →
        IsSequence first second (nat_lt 0 n) s' t' rest v w ↔ IsPair first second s' t (take n back ++ rest) v w
    moved zero few f = pair_same s' t t' f
    moved (suc n) few f =
        let some : 0 < length (take (suc n) back) = omega (arith, length-take-le (suc n) back (omega (arith, few))) in
        let first_byte : get_or (take (suc n) back) 0 0 ≡ get_or bytes used 0 = get_or-take (suc n) back 0 0 (omega arith) ∙ at_back in
        rw (lt-ltb 0 (suc n) (omega arith)) (handed s' t t' (take (suc n) back) some (none_at (take (suc n) back) first_byte) f)

    second_part : (r : Pushed) → IsWithin r back → FollowsRun second t (run_of r back) t' → (rest : List ℕ) (v : V) (w : W) →
        IsSequence first second (took_some r) s' t' rest v w ↔ IsPair first second s' t (run_of r back ++ rest) v w
    second_part All h f = handed s' t t' back some_back (none_at back at_back) f
    second_part (Refused n) h f = moved n h f
    second_part (Starved n) h f = moved n h f

    pub sequence_pushed : (r : Pushed) → IsWithin r back → FollowsRun second t (run_of r back) t' → (rest : List ℕ) (v : V) (w : W) →
        IsSequence first second (took_some r) s' t' rest v w ↔ IsPair first second s t (run_of (after_run used r) bytes ++ rest) v w
    sequence_pushed r h g rest v w =
        let one = second_part r h g rest v w in
        let two = pair_run first second s s' t (take used bytes) apart completes f (run_of r back ++ rest) v w in
        rw (run_after_run bytes back used e r, append_assoc (take used bytes) (run_of r back) rest) (λ k. two.0 (one.0 k), λ k. one.1 (two.1 k))

    left_apart : (n : ℕ) → FollowsRun second t (take n back) t' → IsFalse (nat_lt 0 n) → AreApart first second s' t'
    left_apart zero g k = apart_second s' t t' g (apart_run first second s s' t (take used bytes) f apart)
    left_apart (suc n) g k = absurd (let some = lt-ltb 0 (suc n) (omega arith) in cc)

    pub still_apart : (r : Pushed) → FollowsRun second t (run_of r back) t' → IsFalse (took_some r) → AreApart first second s' t'
    still_apart All g k = absurd (cc)
    still_apart (Refused n) g k = left_apart n g k
    still_apart (Starved n) g k = left_apart n g k

    module _ (ends : Ends first s') where
      none_left : (n : ℕ) → NoneBegins second t' (get_or back n 0) → (rest : List ℕ) (v : V) (w : W) → IsSequence first second (nat_lt 0 n) s' t' (get_or back n 0 ∷ rest) v w → ⊥
      none_left zero g rest v w = pair_none_begins first second s' t' (get_or back 0 0) (none_at back at_back) (λ u h. g) rest v w
      none_left (suc n) g rest v w = rw (lt-ltb 0 (suc n) (omega arith)) (λ h. g rest w h.1)

      some_left : (n : ℕ) → Begins second t' (get_or back n 0) → (rest : List ℕ) × (v : V × W) × IsSequence first second (nat_lt 0 n) s' t' (get_or back n 0 ∷ rest) v.0 v.1
      some_left zero g = pair_begins_second first second s' t' (get_or back 0 0) ends g
      some_left (suc n) g = rw (lt-ltb 0 (suc n) (omega arith)) (g.0, (ends.0, g.1), (ends.1, g.2))

      here : (r : Pushed) → Stops (second t') back r → Stops (λ rest (v : V × W). IsSequence first second (took_some r) s' t' rest v.0 v.1) back r
      here All h = h
      here (Refused n) h = λ rest v k. none_left n h rest v.0 v.1 k
      here (Starved n) h = some_left n h

      pub sequence_stops : (b : Bool) (r : Pushed) → b ≡ took_some r → Stops (second t') back r → Stops (λ rest (v : V × W). IsSequence first second b s' t' rest v.0 v.1) bytes (after_run used r)
      sequence_stops b r k h = rw k (stops_after bytes back used e (λ rest (v : V × W). IsSequence first second (took_some r) s' t' rest v.0 v.1) r (here r h))

  -- A byte that the first refuses at its end, where it can't end, or for which its memory is wanting.
  pub first_stops : (s : S) (t : T) (b : ℕ) → NoneBegins first s b → (Ends first s → ⊥) → (rest : List ℕ) (v : V × W) → IsPair first second s t (b ∷ rest) v.0 v.1 → ⊥
  first_stops s t b none no_end rest v = pair_none_begins first second s t b none (λ u h. absurd (no_end (u, h))) rest v.0 v.1

  -- What stops the second.
  pub second_stops : (b : Bool) (s : S) (t : T) (bytes : List ℕ) → IsTrue b → Ends first s → (r : Pushed) → Stops (second t) bytes r → Stops (λ rest (v : V × W). IsSequence first second b s t rest v.0 v.1) bytes r
  second_stops true s t bytes e ends All h = h
  second_stops true s t bytes e ends (Refused n) h = λ rest v k. h rest v.1 k.1
  second_stops true s t bytes e ends (Starved n) h = (h.0, (ends.0, h.1), (ends.1, h.2))
  second_stops false s t bytes e ends r h = absurd (cc)
