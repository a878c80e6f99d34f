-- What holds of the pairs that a state holds.
use Rattle.std.proofs.Common.{◌≡◌, ℕ, ◌+◌, ◌<◌, ◌↔◌, Bool, List, [], ◌∷◌, ◌++◌, map, length, refl, sym, ◌∙◌, ap, IsTrue, arith}
use Rattle.cg_text.specs.Token.{HasOneText, AreBytes}
use Rattle.cg_join.specs.Line.{LacksByte}
use Rattle.cg_join.specs.Repeat.{Stops, items_size}
use Rattle.cg_join.specs.RepeatLaws.{size_pushed}
use Rattle.cg_join.specs.Distinct.{LacksValue, AreDistinct}
use Rattle.cg_join.specs.Pairs.{IsPairText, PairRest, ArePairsAfter, pair_size}
use Rattle.cg_join.specs.PairsLaws.{ends_at, delimiter_step, pair_bytes, pair_one, pair_stops, paired_ended, pairs_completes, pairs_ends, value_one, value_stops}
use Rattle.cg_join.specs.PairsState.{IsCompleted, IsLastWord, WordAtHand, before_last, last_size, whole_pairs}
use Rattle.cg_join.specs.declared.pairs.Stage.{Stage}
use Rattle.cg_join.specs.declared.pairs.Stage.TheVariants.{Before, InWord, InValue}

-- A pair that is put last.
pub before_pushed : {X : Type 0} (ps : List X) (p : X) → before_last (ps ++ p ∷ []) ≡ ps
before_pushed [] p = refl
before_pushed (q ∷ []) p = refl
before_pushed (q ∷ r ∷ ps) p = ap (λ x. q ∷ x) (before_pushed (r ∷ ps) p)

pub size_last : {X : Type 0} (f : X → ℕ) (ps : List X) (p : X) → last_size f (ps ++ p ∷ []) ≡ f p
size_last f [] p = refl
size_last f (q ∷ []) p = refl
size_last f (q ∷ r ∷ ps) p = size_last f (r ∷ ps) p

pub some_last : {X : Type 0} (ps : List X) (p : X) → 0 < length (ps ++ p ∷ [])
some_last [] p = omega arith
some_last (q ∷ ps) p = omega arith

module _ {V X : Type 0} (word : X → V) where
  pub word_last : (ps : List X) (p : X) (v : V) → IsLastWord word (ps ++ p ∷ []) v ↔ (word p ≡ v)
  word_last [] p v = (λ h. h, λ h. h)
  word_last (q ∷ []) p v = (λ h. h, λ h. h)
  word_last (q ∷ r ∷ ps) p v = word_last (r ∷ ps) p v

  -- The last word is one.
  pub one_last : (ps : List X) (v u : V) → IsLastWord word ps v → IsLastWord word ps u → v ≡ u
  one_last [] v u h k = absurd h
  one_last (p ∷ []) v u h k = sym h ∙ k
  one_last (p ∷ q ∷ ps) v u h k = one_last (q ∷ ps) v u h k

  -- A pair with the word of the last in its place.
  pub same_words : (ps : List X) (p : X) → IsLastWord word ps (word p) → map word (before_last ps ++ p ∷ []) ≡ map word ps
  same_words [] p h = absurd h
  same_words (q ∷ []) p h = ap (λ x. x ∷ []) (sym h)
  same_words (q ∷ r ∷ ps) p h = ap (λ x. word q ∷ x) (same_words (r ∷ ps) p h)

  lacks_front : (v : V) (ps : List X) → LacksValue v (map word ps) → LacksValue v (map word (before_last ps))
  lacks_front v [] h = tt
  lacks_front v (p ∷ []) h = tt
  lacks_front v (p ∷ q ∷ ps) h = (h.0, lacks_front v (q ∷ ps) h.1)

  pub distinct_before : (ps : List X) → AreDistinct (map word ps) → AreDistinct (map word (before_last ps))
  distinct_before [] h = tt
  distinct_before (p ∷ []) h = tt
  distinct_before (p ∷ q ∷ ps) h = (lacks_front (word p) (q ∷ ps) h.0, distinct_before (q ∷ ps) h.1)

  last_lacked : (u : V) (ps : List X) (v : V) → IsLastWord word ps v → LacksValue u (map word ps) → u ≡ v → ⊥
  last_lacked u [] v k h e = k
  last_lacked u (p ∷ []) v k h e = h.0 (e ∙ sym k)
  last_lacked u (p ∷ q ∷ ps) v k h e = last_lacked u (q ∷ ps) v k h.1 e

  last_new : (ps : List X) (v : V) → IsLastWord word ps v → AreDistinct (map word ps) → LacksValue v (map word (before_last ps))
  last_new [] v k d = tt
  last_new (p ∷ []) v k d = tt
  last_new (p ∷ q ∷ ps) v k d = (λ e. last_lacked (word p) (q ∷ ps) v k d.0 (sym e), last_new (q ∷ ps) v k d.1)

  some_word : (ps : List X) → 0 < length ps → (v : V) × IsLastWord word ps v
  some_word [] h = absurd (omega (arith, h))
  some_word (p ∷ []) h = (word p, refl)
  some_word (p ∷ q ∷ ps) h = some_word (q ∷ ps) (omega arith)

  -- The last word, which the words before it lack.
  pub last_word : (ps : List X) → 0 < length ps → AreDistinct (map word ps) → (v : V) × IsLastWord word ps v × LacksValue v (map word (before_last ps))
  last_word ps h d = let w = some_word ps h in (w.0, w.1, last_new ps w.0 w.1 d)

-- A pair that gets its value keeps its key.
pub completed_key : {V W X : Type 0} (key word : X → V) → key ≡ word → (paired : V → W → X) → ((v : V) (w : W) → word (paired v w) ≡ v) → (p : X) (w : W) → key (paired (word p) w) ≡ key p
completed_key key word e paired has_word p w = rw e (has_word (word p) w)

-- A pair that has got its value.
module _ {V W X : Type 0} (word : X → V) (value : X → W) where
  pub completed_distinct : (old new : List X) (w : W) → IsCompleted word value old w new → AreDistinct (map word old) → AreDistinct (map word new)
  completed_distinct old new w c d = rw (c.items, same_words word old c.pair c.has_word) d

  pub completed_from : (paired : V → W → X) → ((v : V) (w : W) → word (paired v w) ≡ v) → ((v : V) (w : W) → value (paired v w) ≡ w) → (old front new : List X) (last p : X) (w : W) →
      old ≡ front ++ last ∷ [] → p ≡ paired (word last) w → new ≡ front ++ p ∷ [] → IsCompleted word value old w new
  completed_from paired has_word has_value old front new last p w e is f = record {
    pair = p;
    items = f ∙ ap (λ x. x ++ p ∷ []) (sym (ap before_last e ∙ before_pushed front last));
    has_word = rw e ((word_last word front last (word p)).1 (sym (ap word is ∙ has_word (word last) w)));
    has_value = ap value is ∙ has_value (word last) w;
  }

  module _ (k : V → ℕ) (d : W → ℕ) where
    last_size_is : (ps : List X) (v : V) → IsLastWord word ps v → items_size (pair_size word value k d) ps ≡ items_size (pair_size word value k d) (before_last ps) + 1 + (k v + last_size (λ p. d (value p)) ps)
    last_size_is [] v h = absurd h
    last_size_is (p ∷ []) v h = let e : k (word p) ≡ k v = ap k h in omega (arith, e)
    last_size_is (p ∷ q ∷ ps) v h = let i = last_size_is (q ∷ ps) v h in omega (arith, i)

    pub completed_size : (old new : List X) (w : W) → IsCompleted word value old w new → last_size (λ p. d (value p)) old ≡ 0 → items_size (pair_size word value k d) new ≡ items_size (pair_size word value k d) old + d w
    completed_size old new w c none =
        let e = last_size_is old (word c.pair) c.has_word in
        let f = size_pushed (pair_size word value k d) new (before_last old) c.pair c.items in
        let g : d (value c.pair) ≡ d w = ap d c.has_value in
        omega (arith, e, f, g, none)

-- The relations of a state, whatever the stage is.
module _ {V W X : Type 0} (word : X → V) (value : X → W) (K : List ℕ → V → Type 0) (delimiter : ℕ) (items : List X) where
  pub state_stops : (D : List ℕ → W → Type 0) (stage : Stage) (separator : ℕ) → LacksByte K delimiter → Stops D separator → Stops (PairRest word value (WordAtHand word stage items K) D stage delimiter) separator
  state_stops D Before separator lacks stops = pair_stops word value delimiter K D separator lacks stops
  state_stops D InWord separator lacks stops = pair_stops word value delimiter K D separator lacks stops
  state_stops D InValue separator lacks stops = value_stops word value (WordAtHand word InValue items K) delimiter D separator stops

  pub state_bytes : (D : List ℕ → W → Type 0) (stage : Stage) → delimiter < 256 →
      ((text : List ℕ) (v : V) → K text v → AreBytes text) → ((text : List ℕ) (w : W) → D text w → AreBytes text) →
      (text : List ℕ) (p : X) → PairRest word value (WordAtHand word stage items K) D stage delimiter text p →
      AreBytes text
  state_bytes D Before small f g text p h = pair_bytes word value delimiter K D small f g text p h
  state_bytes D InWord small f g text p h = pair_bytes word value delimiter K D small f g text p h
  state_bytes D InValue small f g text p h = g text (value p) h.1

  pub state_one : (paired : V → W → X) → ((p : X) → paired (word p) (value p) ≡ p) →
      (D : List ℕ → W → Type 0) (stage : Stage) → LacksByte K delimiter → HasOneText K → HasOneText D →
      HasOneText (PairRest word value (WordAtHand word stage items K) D stage delimiter)
  state_one paired whole D Before lacks one two = pair_one word value K delimiter paired whole D lacks one two
  state_one paired whole D InWord lacks one two = pair_one word value K delimiter paired whole D lacks one two
  state_one paired whole D InValue lacks one two = value_one word value (WordAtHand word InValue items K) delimiter paired whole D (one_last word items) two

before_not_value : Before ≡ InValue → ⊥
before_not_value e = cc

word_not_value : InWord ≡ InValue → ⊥
word_not_value e = cc

module _ {V W X : Type 0} (word : X → V) (value : X → W) (paired : V → W → X) (has_word : (v : V) (w : W) → word (paired v w) ≡ v) (has_value : (v : V) (w : W) → value (paired v w) ≡ w)
    (items : List X) (R : List ℕ → X → Type 0) (separator delimiter : ℕ) (K : List ℕ → V → Type 0) (D : List ℕ → W → Type 0) (d : AreDistinct (map word items)) where
  pub state_completes : (stage : Stage) → ((rest : List ℕ) × (v : V) × K rest v × LacksValue v (map word items)) → ((rest : List ℕ) × (w : W) × D rest w) → (stage ≡ InValue → 0 < length items) →
      (rest : List ℕ) × (all : List X) × ArePairsAfter word stage (whole_pairs stage items) (PairRest word value (WordAtHand word stage items K) D stage delimiter) R separator rest all
  state_completes Before c e f = pairs_completes word value paired has_word has_value items R separator delimiter K D d Before c e (λ h. absurd (before_not_value h))
  state_completes InWord c e f = pairs_completes word value paired has_word has_value items R separator delimiter K D d InWord c e (λ h. absurd (word_not_value h))
  state_completes InValue c e f =
      let w = last_word word items (f refl) d in
      pairs_completes word value paired has_word has_value (before_last items) R separator delimiter (WordAtHand word InValue items K) D (distinct_before word items d) InValue ([], w.0, w.1, w.2) e (λ _. w)

  pub state_ends : (stage : Stage) (e : Bool) → IsTrue e ↔ ((w : W) × D [] w) → (stage ≡ InValue → 0 < length items) →
      IsTrue (ends_at stage e) ↔ ((all : List X) × ArePairsAfter word stage (whole_pairs stage items) (PairRest word value (WordAtHand word stage items K) D stage delimiter) R separator [] all)
  state_ends Before e is f = pairs_ends word value paired has_word has_value items R separator delimiter K D d Before e is (λ h. absurd (before_not_value h))
  state_ends InWord e is f = pairs_ends word value paired has_word has_value items R separator delimiter K D d InWord e is (λ h. absurd (word_not_value h))
  state_ends InValue e is f = pairs_ends word value paired has_word has_value (before_last items) R separator delimiter (WordAtHand word InValue items K) D (distinct_before word items d) InValue e is (λ _. last_word word items (f refl) d)

-- The delimiter, where the pair of the word is put last.
module _ {V W X : Type 0} (word : X → V) (value : X → W) (delimiter separator : ℕ) (items : List X) (R : List ℕ → X → Type 0) (K : List ℕ → V → Type 0) (D : List ℕ → W → Type 0)
    (paired : V → W → X) (has_word : (v : V) (w : W) → word (paired v w) ≡ v) (has_value : (v : V) (w : W) → value (paired v w) ≡ w) (new : List X) (p : X) (e : new ≡ items ++ p ∷ []) (k : K [] (word p)) where
  last_is : HasOneText K → (v : V) → IsLastWord word new v ↔ K [] v
  last_is one v = rw e (λ h. rw (sym ((word_last word items p v).0 h)) k, λ h. (word_last word items p v).1 (one [] (word p) v k h))

  pub delimiter_pushed : HasOneText K → LacksByte K delimiter → Stops D separator → ((rest : List ℕ) × (w : W) × D rest w) → (K' : List ℕ → V → Type 0) → (rest : List ℕ) (all : List X) →
      ArePairsAfter word InValue (whole_pairs InValue new)
      (PairRest word value (WordAtHand word InValue new K') D InValue delimiter) R separator rest all ↔
      ArePairsAfter word InWord items (IsPairText word value K D delimiter) R separator (delimiter ∷ rest) all
  delimiter_pushed one lacks stops d K' =
      let front : before_last new ≡ items = ap before_last e ∙ before_pushed items p in
      let v = word p in
      let q = paired v d.1 in
      rw front (delimiter_step word value delimiter separator items R K D (WordAtHand word InValue new K') (last_is one) lacks stops
      (d.0, q, paired_ended word value paired has_word has_value (WordAtHand word InValue new K') D d.0 v d.1 ((last_is one v).1 k) d.2))
