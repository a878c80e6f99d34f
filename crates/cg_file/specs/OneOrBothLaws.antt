-- What holds of one of two tokens, or both.
use Rattle.std.proofs.Common.{◌≡◌, ℕ, ◌↔◌, ◌||◌, ◌&&◌, inl, inr, Bool, true, false, List, [], ◌∷◌, ◌++◌, Option, Some, None, refl, sym, ◌∙◌, ap, IsTrue}
use Rattle.std.proofs.lemmas.Bool.{and_from, and_parts}
use Rattle.std.proofs.lemmas.List.{append-nil}
use Rattle.cg_text.specs.Scan.{FollowsRun}
use Rattle.cg_text.specs.Token.{AreBytes, Begins, Completes, Ends, Follows, HasOneValue, HoldsBytes, NoneBegins, Same, Spells}
use Rattle.cg_join.specs.ByteLaws.{sequence_bytes}
use Rattle.cg_join.specs.Join.{IsPair, AreApart}
use Rattle.cg_join.specs.Maybe.{MaybeRest}
use Rattle.cg_join.specs.MaybeLaws.{maybe_as, maybe_one, maybe_bytes}
use Rattle.cg_join.specs.Repeat.{LacksEmpty}
use Rattle.cg_join.specs.RunLaws.{pair_run}
use Rattle.cg_join.specs.SequenceLaws.{both_same, sequence_one, pair_follows_first, pair_follows_second, pair_none_begins, pair_begins}
use Rattle.cg_join.specs.CutLaws.{concat_as}
use Rattle.cg_join.specs.Spelling.{spells_as}
use Rattle.cg_file.specs.OneOrBoth.{IsOneOrBoth, Differ, LaterRest, OneOrBothRest, in_second, waits, is_start, ends_at}
use Rattle.cg_file.specs.declared.one_or_both.PartsTaken.{PartsTaken}
use Rattle.cg_file.specs.declared.one_or_both.PartsTaken.TheVariants.{Start, First, Second, Both}

no_byte : (b : ℕ) (rest : List ℕ) → b ∷ rest ≡ [] → ⊥
no_byte b rest e = cc

true_false : {A : Type 0} → true ≡ false → A
true_false e = absurd (cc)

module _ {S T V W : Type 0} (first : S → List ℕ → V → Type 0) (second : T → List ℕ → W → Type 0) where
  abbrev Later : Bool × T → List ℕ → Option W → Type 0
  Later x rest w = LaterRest first second x rest w

  empty_first : (s : S) (t : T) (rest : List ℕ) (v : V) (w : Option W) → rest ≡ [] → IsPair first Later s (false, t) rest v w → first s [] v
  empty_first s t rest v w e h = of_both h.front h.back (sym e ∙ h.whole) h.begins
    where
      of_both : (front back : List ℕ) → [] ≡ front ++ back → first s front v → first s [] v
      of_both [] back e h = h
      of_both (x ∷ front) back e h = absurd (cc)

  -- ---- The laws of a state

  alone : (s : S) (t : T) (rest : List ℕ) (v : V) → first s rest v → IsPair first Later s (false, t) rest v None
  alone s t rest v h = record { front = rest; back = []; whole = sym (append-nil rest); begins = h; ends = (refl, refl) }

  pub one_completes : (place : PartsTaken) (s : S) (t : T) → (IsTrue (in_second place) → Ends first s) → Completes first s → Completes second t →
      (rest : List ℕ) × (v : Option V × Option W) × OneOrBothRest first second place s t rest v.0 v.1
  one_completes Start s t ended c d = (c.0, (Some c.1, None), (refl, alone s t c.0 c.1 c.2))
  one_completes First s t ended c d = (c.0, (Some c.1, None), (refl, alone s t c.0 c.1 c.2))
  one_completes Second s t ended c d = (d.0, (None, Some d.1), (refl, d.2))
  one_completes Both s t ended c d = (d.0, (Some (ended refl).0, Some d.1), (refl, ((ended refl).1, d.2)))

  ends_of : (place : PartsTaken) (s : S) (t : T) (a b : Bool) → (IsTrue (is_start place) → Differ (first s) (second t)) → (IsTrue (waits place) → LacksEmpty (second t)) →
      (Ends first s → IsTrue a) → (Ends second t → IsTrue b) → (v : Option V) (w : Option W) → OneOrBothRest first second place s t [] v w → IsTrue (ends_at place a b)
  ends_of Start s t a b differ filled f g (Some v) w h = absurd ((differ refl).0 v (empty_first s t [] v w refl h.1))
  ends_of Start s t a b differ filled f g None (Some w) h = absurd (filled refl w h.1)
  ends_of Start s t a b differ filled f g None None h = true_false h.1.0
  ends_of First s t a b differ filled f g (Some v) w h = f (v, empty_first s t [] v w refl h.1)
  ends_of First s t a b differ filled f g None w h = true_false (sym h.0)
  ends_of Second s t a b differ filled f g (Some v) w h = true_false (sym h.0)
  ends_of Second s t a b differ filled f g None (Some w) h = g (w, h.1)
  ends_of Second s t a b differ filled f g None None h = true_false h.1.0
  ends_of Both s t a b differ filled f g (Some v) (Some w) h = g (w, h.1.1)
  ends_of Both s t a b differ filled f g (Some v) None h = true_false h.1.1.0
  ends_of Both s t a b differ filled f g None w h = true_false (sym h.0)

  ended_at : (place : PartsTaken) (s : S) (t : T) (a b : Bool) → (IsTrue (in_second place) → IsTrue a) → (IsTrue a → Ends first s) → (IsTrue b → Ends second t) → IsTrue (ends_at place a b) →
      (v : Option V × Option W) × OneOrBothRest first second place s t [] v.0 v.1
  ended_at Start s t a b ended f g h = true_false (sym h)
  ended_at First s t a b ended f g h = let k = f h in ((Some k.0, None), (refl, alone s t [] k.0 k.1))
  ended_at Second s t a b ended f g h = let k = g h in ((None, Some k.0), (refl, k.1))
  ended_at Both s t a b ended f g h = let j = f (ended refl) in let k = g h in ((Some j.0, Some k.0), (refl, (j.1, k.1)))

  pub one_ends : (place : PartsTaken) (s : S) (t : T) (a b : Bool) → (IsTrue (is_start place) → Differ (first s) (second t)) → (IsTrue (waits place) → LacksEmpty (second t)) → (IsTrue (in_second place) → IsTrue a) →
      IsTrue a ↔ Ends first s → IsTrue b ↔ Ends second t → IsTrue (ends_at place a b) ↔ ((v : Option V × Option W) × OneOrBothRest first second place s t [] v.0 v.1)
  one_ends place s t a b differ filled ended f g = (ended_at place s t a b ended f.0 g.0, λ h. ends_of place s t a b differ filled f.1 g.1 (h.0.0) (h.0.1) h.1)

  -- With the first there is another text than without.
  begun_by : (s : S) (t : T) (b : ℕ) (rest : List ℕ) (v : V) (w : Option W) → ((v : V) → first s [] v → ⊥) → IsPair first Later s (false, t) (b ∷ rest) v w → (more : List ℕ) × first s (b ∷ more) v
  begun_by s t b rest v w filled h = of_front h.front h.back h.whole h.begins
    where
      of_front : (front back : List ℕ) → b ∷ rest ≡ front ++ back → first s front v → (more : List ℕ) × first s (b ∷ more) v
      of_front [] back e h = absurd (filled v h)
      of_front (x ∷ front) back e h = let same : x ≡ b = cc in (front, rw same at h)

  not_both : (s : S) (t : T) → Differ (first s) (second t) → (rest : List ℕ) (v : V) (w : Option W) (u : W) → IsPair first Later s (false, t) rest v w → second t rest u → ⊥
  not_both s t differ [] v w u h k = differ.0 v (empty_first s t [] v w refl h)
  not_both s t differ (b ∷ rest) v w u h k = let one = begun_by s t b rest v w differ.0 h in differ.1 b one.0 rest v u one.1 k

  later_apart : (s : S) (t : T) → AreApart first second s t → AreApart first Later s (false, t)
  later_apart s t apart front more back byte v u (Some w) h k l = apart front more back byte v u w h k l
  later_apart s t apart front more back byte v u None h k l = no_byte byte back l.1

  some_same : (v u : V) (w x : Option W) → (v ≡ u) × (w ≡ x) → ◌≡◌ {A = Option V × Option W} (Some v, w) (Some u, x)
  some_same v u w x e = both_same (ap Some e.0, e.1)

  none_same : (w x : Option W) → w ≡ x → ◌≡◌ {A = Option V × Option W} (None, w) (None, x)
  none_same w x e = both_same (refl, e)

  later_one : (t : T) → HasOneValue second t → (rest : List ℕ) (w x : Option W) → MaybeRest true (second t) rest w → MaybeRest true (second t) rest x → w ≡ x
  later_one t one = maybe_one (second t) true (λ e. true_false e) one

  pair_one : (s : S) (t : T) → LacksEmpty (second t) → AreApart first second s t → HasOneValue first s → HasOneValue second t →
      (rest : List ℕ) (v u : V) (w x : Option W) → IsPair first Later s (false, t) rest v w → IsPair first Later s (false, t) rest u x → (v ≡ u) × (w ≡ x)
  pair_one s t filled apart one two rest v u w x h k =
      sequence_one first Later false s (false, t) (λ _. later_apart s t apart) one (maybe_one (second t) false (λ _. filled) two) rest v u w x h k

  value_of : (place : PartsTaken) (s : S) (t : T) → (IsTrue (is_start place) → Differ (first s) (second t)) → (IsTrue (waits place) → LacksEmpty (second t)) → (IsTrue (waits place) → AreApart first second s t) →
      HasOneValue first s → HasOneValue second t → (rest : List ℕ) (v u : Option V) (w x : Option W) → OneOrBothRest first second place s t rest v w → OneOrBothRest first second place s t rest u x →
      ◌≡◌ {A = Option V × Option W} (v, w) (u, x)
  value_of Start s t differ filled apart one two rest (Some v) (Some u) w x h k = some_same v u w x (pair_one s t (filled refl) (apart refl) one two rest v u w x h.1 k.1)
  value_of Start s t differ filled apart one two rest (Some v) None w (Some x) h k = absurd (not_both s t (differ refl) rest v w x h.1 k.1)
  value_of Start s t differ filled apart one two rest (Some v) None w None h k = true_false k.1.0
  value_of Start s t differ filled apart one two rest None (Some u) (Some w) x h k = absurd (not_both s t (differ refl) rest u x w k.1 h.1)
  value_of Start s t differ filled apart one two rest None (Some u) None x h k = true_false h.1.0
  value_of Start s t differ filled apart one two rest None None w x h k = none_same w x (later_one t two rest w x h.1 k.1)
  value_of First s t differ filled apart one two rest (Some v) (Some u) w x h k = some_same v u w x (pair_one s t (filled refl) (apart refl) one two rest v u w x h.1 k.1)
  value_of First s t differ filled apart one two rest (Some v) None w x h k = true_false (sym k.0)
  value_of First s t differ filled apart one two rest None u w x h k = true_false (sym h.0)
  value_of Second s t differ filled apart one two rest None None w x h k = none_same w x (later_one t two rest w x h.1 k.1)
  value_of Second s t differ filled apart one two rest None (Some u) w x h k = true_false (sym k.0)
  value_of Second s t differ filled apart one two rest (Some v) u w x h k = true_false (sym h.0)
  value_of Both s t differ filled apart one two rest (Some v) (Some u) w x h k = some_same v u w x (one [] v u h.1.0 k.1.0, later_one t two rest w x h.1.1 k.1.1)
  value_of Both s t differ filled apart one two rest (Some v) None w x h k = true_false (sym k.0)
  value_of Both s t differ filled apart one two rest None u w x h k = true_false (sym h.0)

  pub one_value_of : (place : PartsTaken) (s : S) (t : T) → (IsTrue (is_start place) → Differ (first s) (second t)) → (IsTrue (waits place) → LacksEmpty (second t)) → (IsTrue (waits place) → AreApart first second s t) →
      HasOneValue first s → HasOneValue second t → (rest : List ℕ) (v w : Option V × Option W) → OneOrBothRest first second place s t rest v.0 v.1 → OneOrBothRest first second place s t rest w.0 w.1 → v ≡ w
  one_value_of place s t differ filled apart one two rest v w h k = value_of place s t differ filled apart one two rest (v.0) (w.0) (v.1) (w.1) h k

  bytes_of : (place : PartsTaken) (s : S) (t : T) → HoldsBytes first s → HoldsBytes second t → (rest : List ℕ) (v : Option V) (w : Option W) → OneOrBothRest first second place s t rest v w → AreBytes rest
  bytes_of place s t f g rest (Some v) w h = sequence_bytes first Later (in_second place) s (in_second place, t) f (maybe_bytes (second t) (in_second place) g) rest v w h.1
  bytes_of place s t f g rest None w h = maybe_bytes (second t) true g rest w h.1

  pub one_bytes : (place : PartsTaken) (s : S) (t : T) → HoldsBytes first s → HoldsBytes second t → (rest : List ℕ) (v : Option V × Option W) → OneOrBothRest first second place s t rest v.0 v.1 → AreBytes rest
  one_bytes place s t f g rest v h = bytes_of place s t f g rest (v.0) (v.1) h

  -- ---- Steps

  -- The first takes a byte.
  pub first_taken : (place : PartsTaken) (s s' : S) (t : T) (b : ℕ) → IsTrue (waits place) → (IsTrue (is_start place) → Differ (first s) (second t)) → AreApart first second s t → Completes first s' → Follows first s b s' →
      (rest : List ℕ) (v : Option V) (w : Option W) → OneOrBothRest first second First s' t rest v w ↔ OneOrBothRest first second place s t (b ∷ rest) v w
  first_taken Start s s' t b live differ apart c f rest (Some v) w =
      let k = pair_follows_first first Later s s' (false, t) b (later_apart s t apart) c f rest v w in
      (λ h. (refl, k.0 h.1), λ h. (refl, k.1 h.1))
  first_taken Start s s' t b live differ apart c f rest None None = (λ h. true_false (sym h.0), λ h. true_false h.1.0)
  first_taken Start s s' t b live differ apart c f rest None (Some w) = (λ h. true_false (sym h.0), λ h. absurd ((differ refl).1 b c.0 rest c.1 w ((f c.0 c.1).0 c.2) h.1))
  first_taken First s s' t b live differ apart c f rest (Some v) w =
      let k = pair_follows_first first Later s s' (false, t) b (later_apart s t apart) c f rest v w in
      (λ h. (refl, k.0 h.1), λ h. (refl, k.1 h.1))
  first_taken First s s' t b live differ apart c f rest None w = (λ h. true_false (sym h.0), λ h. true_false (sym h.0))
  first_taken Second s s' t b live differ apart c f rest v w = true_false (sym live)
  first_taken Both s s' t b live differ apart c f rest v w = true_false (sym live)

  -- The first takes a run of bytes.
  pub first_run : (s s' : S) (t : T) (run : List ℕ) → AreApart first second s t → Completes first s' → FollowsRun first s run s' →
      (rest : List ℕ) (v : Option V) (w : Option W) → OneOrBothRest first second First s' t rest v w ↔ OneOrBothRest first second First s t (run ++ rest) v w
  first_run s s' t run apart c f rest (Some v) w =
      let k = pair_run first Later s s' (false, t) run (later_apart s t apart) c f rest v w in
      (λ h. (refl, k.0 h.1), λ h. (refl, k.1 h.1))
  first_run s s' t run apart c f rest None w = (λ h. true_false (sym h.0), λ h. true_false (sym h.0))

  later_follows : (t t' : T) (begun : Bool) (b : ℕ) → Follows second t b t' → Follows Later (begun, t) b (true, t')
  later_follows t t' begun b f rest None = (λ h. true_false h.0, λ h. absurd (no_byte b rest h.1))
  later_follows t t' begun b f rest (Some w) = f rest w

  later_none : (t : T) (begun : Bool) (b : ℕ) → NoneBegins second t b → NoneBegins Later (begun, t) b
  later_none t begun b none rest None h = no_byte b rest h.1
  later_none t begun b none rest (Some w) h = none rest w h

  -- The second takes it, and there is no first.
  pub second_alone : (s s' : S) (t t' : T) (b : ℕ) → Differ (first s) (second t) → NoneBegins first s b → Follows second t b t' →
      (rest : List ℕ) (v : Option V) (w : Option W) → OneOrBothRest first second Second s' t' rest v w ↔ OneOrBothRest first second Start s t (b ∷ rest) v w
  second_alone s s' t t' b differ none f rest (Some v) w = (λ h. true_false (sym h.0), λ h. absurd (let k = begun_by s t b rest v w differ.0 h.1 in none k.0 v k.1))
  second_alone s s' t t' b differ none f rest None w = let k = later_follows t t' true b f rest w in (λ h. (refl, k.0 h.1), λ h. (refl, k.1 h.1))

  -- The second takes it after the first.
  pub second_after : (s s' : S) (t t' : T) (b : ℕ) → Same first s s' → NoneBegins first s b → Follows second t b t' →
      (rest : List ℕ) (v : Option V) (w : Option W) → OneOrBothRest first second Both s' t' rest v w ↔ OneOrBothRest first second First s t (b ∷ rest) v w
  second_after s s' t t' b same none f rest (Some v) w =
      let k = pair_follows_second first Later s (false, t) (true, t') b none (later_follows t t' false b f) rest v w in
      (λ h. (refl, k.0 ((same [] v).0 h.1.0, h.1.1)), λ h. (let j = k.1 h.1 in (refl, ((same [] v).1 j.0, j.1))))
  second_after s s' t t' b same none f rest None w = (λ h. true_false (sym h.0), λ h. true_false (sym h.0))

  -- Neither takes it.
  pub start_refused : (s : S) (t : T) (b : ℕ) → Differ (first s) (second t) → NoneBegins first s b → NoneBegins second t b →
      (rest : List ℕ) (v : Option V) (w : Option W) → OneOrBothRest first second Start s t (b ∷ rest) v w → ⊥
  start_refused s t b differ none none' rest (Some v) w h = let k = begun_by s t b rest v w differ.0 h.1 in none k.0 v k.1
  start_refused s t b differ none none' rest None w h = later_none t true b none' rest w h.1

  pub first_refused : (s : S) (t : T) (b : ℕ) → NoneBegins first s b → ((v : V) → first s [] v → NoneBegins second t b) →
      (rest : List ℕ) (v : Option V) (w : Option W) → OneOrBothRest first second First s t (b ∷ rest) v w → ⊥
  first_refused s t b none none' rest (Some v) w h = pair_none_begins first Later s (false, t) b none (λ u k. later_none t false b (none' u k)) rest v w h.1
  first_refused s t b none none' rest None w h = true_false (sym h.0)

  -- ---- Which bytes begin a rest

  or_left : (a b : Bool) → IsTrue a → IsTrue (a || b)
  or_left true b h = refl
  or_left false b h = true_false (sym h)

  or_right : (a b : Bool) → IsTrue b → IsTrue (a || b)
  or_right true b h = refl
  or_right false b h = h

  or_cases : {X : Type 0} (a b : Bool) → IsTrue (a || b) → (IsTrue a → X) → (IsTrue b → X) → X
  or_cases true b h f g = f refl
  or_cases false b h f g = g h

  later_begun : (t : T) (begun : Bool) (b : ℕ) (rest : List ℕ) (w : Option W) → MaybeRest begun (second t) (b ∷ rest) w → Begins second t b
  later_begun t begun b rest None h = absurd (no_byte b rest h.1)
  later_begun t begun b rest (Some w) h = (rest, w, h)

  start_of : (s : S) (t : T) (b : ℕ) (x y : Bool) → Differ (first s) (second t) → (Begins first s b → IsTrue x) → (Begins second t b → IsTrue y) →
      (rest : List ℕ) (v : Option V) (w : Option W) → OneOrBothRest first second Start s t (b ∷ rest) v w → IsTrue (x || y)
  start_of s t b x y differ f g rest (Some v) w h = let k = begun_by s t b rest v w differ.0 h.1 in or_left x y (f (k.0, v, k.1))
  start_of s t b x y differ f g rest None w h = or_right x y (g (later_begun t true b rest w h.1))

  pub start_begins : (s : S) (t : T) (b : ℕ) (x y : Bool) → Differ (first s) (second t) → IsTrue x ↔ Begins first s b → IsTrue y ↔ Begins second t b →
      IsTrue (x || y) ↔ ((rest : List ℕ) × (v : Option V × Option W) × OneOrBothRest first second Start s t (b ∷ rest) v.0 v.1)
  start_begins s t b x y differ f g = (
    λ h. or_cases x y h
        (λ k. (let j = f.0 k in (j.0, (Some j.1, None), (refl, alone s t (b ∷ j.0) j.1 j.2))))
        (λ k. (let j = g.0 k in (j.0, (None, Some j.1), (refl, j.2)))),
    λ h. start_of s t b x y differ f.1 g.1 h.0 (h.1.0) (h.1.1) h.2,
  )

  first_of : (s : S) (t : T) (b : ℕ) (x e y : Bool) → (Begins first s b → IsTrue x) → (Ends first s → IsTrue e) → (Begins second t b → IsTrue y) →
      (rest : List ℕ) (v : Option V) (w : Option W) → OneOrBothRest first second First s t (b ∷ rest) v w → IsTrue (x || (e && y))
  first_of s t b x e y f g h rest (Some v) w k =
      elim (pair_begins first Later s (false, t) b rest v w k.1) [
        | inl j ↦ or_left x (e && y) (f j)
        | inr j ↦ or_right x (e && y) (and_from e y (g j.0) (h (later_begun t false b j.1.0 j.1.1 j.1.2)))
      ]
  first_of s t b x e y f g h rest None w k = true_false (sym k.0)

  pub first_begins : (s : S) (t : T) (b : ℕ) (x e y : Bool) → IsTrue x ↔ Begins first s b → IsTrue e ↔ Ends first s → IsTrue y ↔ Begins second t b →
      IsTrue (x || (e && y)) ↔ ((rest : List ℕ) × (v : Option V × Option W) × OneOrBothRest first second First s t (b ∷ rest) v.0 v.1)
  first_begins s t b x e y f g k = (
    λ h. or_cases x (e && y) h
        (λ a. (let j = f.0 a in (j.0, (Some j.1, None), (refl, alone s t (b ∷ j.0) j.1 j.2))))
        (λ a. (let both = and_parts e y a in let i = g.0 both.0 in let j = k.0 both.1 in
        (j.0, (Some i.0, Some j.1), (refl, record { front = []; back = b ∷ j.0; whole = refl; begins = i.1; ends = j.2 })))),
    λ h. first_of s t b x e y f.1 g.1 k.1 h.0 (h.1.0) (h.1.1) h.2,
  )

  second_of : (s : S) (t : T) (b : ℕ) (y : Bool) → (Begins second t b → IsTrue y) → (rest : List ℕ) (v : Option V) (w : Option W) → OneOrBothRest first second Second s t (b ∷ rest) v w → IsTrue y
  second_of s t b y g rest (Some v) w h = true_false (sym h.0)
  second_of s t b y g rest None w h = g (later_begun t true b rest w h.1)

  pub second_begins : (s : S) (t : T) (b : ℕ) (y : Bool) → IsTrue y ↔ Begins second t b → IsTrue y ↔ ((rest : List ℕ) × (v : Option V × Option W) × OneOrBothRest first second Second s t (b ∷ rest) v.0 v.1)
  second_begins s t b y g = (λ h. (let j = g.0 h in (j.0, (None, Some j.1), (refl, j.2))), λ h. second_of s t b y g.1 h.0 (h.1.0) (h.1.1) h.2)

  both_of : (s : S) (t : T) (b : ℕ) (y : Bool) → (Begins second t b → IsTrue y) → (rest : List ℕ) (v : Option V) (w : Option W) → OneOrBothRest first second Both s t (b ∷ rest) v w → IsTrue y
  both_of s t b y g rest (Some v) w h = g (later_begun t true b rest w h.1.1)
  both_of s t b y g rest None w h = true_false (sym h.0)

  pub both_begin : (s : S) (t : T) (b : ℕ) (y : Bool) → Ends first s → IsTrue y ↔ Begins second t b → IsTrue y ↔ ((rest : List ℕ) × (v : Option V × Option W) × OneOrBothRest first second Both s t (b ∷ rest) v.0 v.1)
  both_begin s t b y e g = (λ h. (let j = g.0 h in (j.0, (Some e.0, Some j.1), (refl, (e.1, j.2)))), λ h. both_of s t b y g.1 h.0 (h.1.0) (h.1.1) h.2)

  -- ---- What goes on with a byte of one of the two

  pub start_goes : (s : S) (t : T) (b : ℕ) → Begins first s b → (rest : List ℕ) × (v : Option V × Option W) × OneOrBothRest first second Start s t (b ∷ rest) v.0 v.1
  start_goes s t b j = (j.0, (Some j.1, None), (refl, alone s t (b ∷ j.0) j.1 j.2))

  pub first_goes : (s : S) (t : T) (b : ℕ) → Begins first s b → (rest : List ℕ) × (v : Option V × Option W) × OneOrBothRest first second First s t (b ∷ rest) v.0 v.1
  first_goes s t b j = (j.0, (Some j.1, None), (refl, alone s t (b ∷ j.0) j.1 j.2))

  pub later_goes : (s : S) (t : T) (b : ℕ) → Ends first s → Begins second t b → (rest : List ℕ) × (v : Option V × Option W) × OneOrBothRest first second First s t (b ∷ rest) v.0 v.1
  later_goes s t b i j = (j.0, (Some i.0, Some j.1), (refl, record { front = []; back = b ∷ j.0; whole = refl; begins = i.1; ends = j.2 }))

-- ---- Texts that relations give

module _ {S T V W : Type 0} {A : S → List ℕ → V → Type 0} {B : T → List ℕ → W → Type 0} {s : S} {t : T} {R : List ℕ → V → Type 0} {Q : List ℕ → W → Type 0} where
  alike : Spells A s R → Spells B t Q → (text : List ℕ) (v : Option V) (w : Option W) → IsOneOrBoth (A s) (B t) text v w ↔ IsOneOrBoth R Q text v w
  alike a b text (Some v) w = concat_as a.is (maybe_as (B t) Q b.is) text (v, w)
  alike a b text None None = (λ h. h, λ h. h)
  alike a b text None (Some w) = b.is text w

  pub one_or_both_spells : {X : Type 0} {M : X → List ℕ → Option V × Option W → Type 0} {x : X} → Spells A s R → Spells B t Q →
      Spells M x (λ text v. IsOneOrBoth (A s) (B t) text v.0 v.1) → Spells M x (λ text v. IsOneOrBoth R Q text v.0 v.1)
  one_or_both_spells a b m = spells_as m (λ text v. alike a b text (v.0) (v.1))

  pub differ_spells : Spells A s R → Spells B t Q → Differ R Q → Differ (A s) (B t)
  differ_spells a b differ = (λ v h. differ.0 v ((a.is [] v).0 h), λ c more back v w h k. differ.1 c more back v w ((a.is (c ∷ more) v).0 h) ((b.is (c ∷ back) w).0 k))

pub filled_spells : {T W : Type 0} {B : T → List ℕ → W → Type 0} {t : T} {Q : List ℕ → W → Type 0} → Spells B t Q → LacksEmpty Q → LacksEmpty (B t)
filled_spells b filled w h = filled w ((b.is [] w).0 h)
