-- What holds of pairs of a word and a value.
use Rattle.std.proofs.Common.{◌≡◌, ℕ, ◌<◌, ◌↔◌, ◌⊎◌, inl, inr, Bool, true, false, not, ◌&&◌, ◌||◌, List, [], ◌∷◌, ◌++◌, map, Ok, Err, refl, sym, ◌∙◌, ap, append_assoc, append-nil, IsTrue, IsFalse}
use Rattle.std.proofs.lemmas.List.{map-append}
use Rattle.std.proofs.lemmas.Bool.{and_from, and_parts}
use Rattle.std.specs.declared.result.Result.{Result}
use Rattle.cg_text.specs.Token.{HasOneText, AreBytes, IfTaken, IfRefused, UnlessTaken}
use Rattle.cg_text.specs.TokenLaws.{bytes_append}
use Rattle.cg_join.specs.Line.{LacksByte}
use Rattle.cg_join.specs.Repeat.{Stops, IsList, IsListAfter}
use Rattle.cg_join.specs.RepeatLaws.{not_nil, same_front, list_one, list_after_one, list_taken, list_same, list_none, list_next, list_begun}
use Rattle.cg_join.specs.Distinct.{LacksValue, AreDistinct, any_value}
use Rattle.cg_join.specs.DistinctLaws.{distinct_push, twice, lacks_value, or_is, with_distinct}
use Rattle.cg_join.specs.ByteLaws.{list_bytes}
use Rattle.cg_join.specs.Pairs.{IsPairText, PairRest, AreLedFrom, AreLed, AreLedAfter, ArePairsAfter}
use Rattle.cg_join.specs.declared.pairs.Stage.{Stage}
use Rattle.cg_join.specs.declared.pairs.Stage.TheVariants.{Before, InWord, InValue}

no_cons : (b : ℕ) (rest : List ℕ) → b ∷ rest ≡ [] → ⊥
no_cons b rest e = cc

module _ {V W X : Type 0} (word : X → V) (value : X → W) (delimiter : ℕ) where
  -- The texts of a pair's word and its value, in one way.
  pub pair_cut : (K : List ℕ → V → Type 0) (D E : List ℕ → W → Type 0) → LacksByte K delimiter →
      (text : List ℕ) (p q : X) → (h : IsPairText word value K D delimiter text p)
      (k : IsPairText word value K E delimiter text q) → (h.front ≡ k.front) × (h.back ≡ k.back)
  pair_cut K D E lacks text p q h k =
      same_front delimiter K (λ front more v u a b. lacks front more u b) h.front h.back k.front k.back (word p) (word q) (sym h.whole ∙ k.whole) h.begins k.begins

  module _ (K : List ℕ → V → Type 0) (D : List ℕ → W → Type 0) where
    pub pair_nil : (p : X) → IsPairText word value K D delimiter [] p → ⊥
    pair_nil p h = not_nil delimiter h.front h.back h.whole

    stops_at : (separator : ℕ) → LacksByte K delimiter → Stops D separator → (front more : List ℕ) (p q : X) → (h : IsPairText word value K D delimiter front p) (k : IsPairText word value K D delimiter (front ++ separator ∷ more) q) → ⊥
    stops_at separator lacks stops front more p q h k =
        let whole : front ++ separator ∷ more ≡ h.front ++ delimiter ∷ (h.back ++ separator ∷ more) =
        ap (λ x. x ++ separator ∷ more) h.whole ∙ append_assoc h.front (delimiter ∷ h.back) (separator ∷ more) in
        let s = same_front delimiter K (λ f m v u a b. lacks f m u b) h.front (h.back ++ separator ∷ more) k.front k.back (word p) (word q) (sym whole ∙ k.whole) h.begins k.begins in
        stops h.back more (value p) (value q) h.ends (rw s.1 k.ends)

    pub pair_stops : (separator : ℕ) → LacksByte K delimiter → Stops D separator → Stops (IsPairText word value K D delimiter) separator
    pair_stops separator lacks stops front more p q h k = stops_at separator lacks stops front more p q h k

    pub pair_bytes : delimiter < 256 → ((text : List ℕ) (v : V) → K text v → AreBytes text) → ((text : List ℕ) (w : W) → D text w → AreBytes text) → (text : List ℕ) (p : X) → IsPairText word value K D delimiter text p → AreBytes text
    pair_bytes small f g text p h = rw h.whole (bytes_append h.front (delimiter ∷ h.back) (f h.front (word p) h.begins) (small, g h.back (value p) h.ends))

    delimiter_at : LacksByte K delimiter → (rest : List ℕ) (p : X) (front back : List ℕ) → delimiter ∷ rest ≡ front ++ delimiter ∷ back → K front (word p) → D back (value p) → K [] (word p) × D rest (value p)
    delimiter_at lacks rest p [] back e h k = let t : rest ≡ back = cc in (h, rw t k)
    delimiter_at lacks rest p (x ∷ front) back e h k =
        let s : x ≡ delimiter = cc in
        absurd (lacks [] front (word p) (rw s at h))

    -- The delimiter after a word.
    pub delimiter_taken : LacksByte K delimiter → (rest : List ℕ) (p : X) → (K [] (word p) × D rest (value p)) ↔ IsPairText word value K D delimiter (delimiter ∷ rest) p
    delimiter_taken lacks rest p = (
      λ h. record { front = []; back = rest; whole = refl; begins = h.0; ends = h.1 },
      λ h. delimiter_at lacks rest p h.front h.back h.whole h.begins h.ends,
    )

    none_at : (b : ℕ) → (b ≡ delimiter → ⊥) → ((rest : List ℕ) (v : V) → K (b ∷ rest) v → ⊥) → (rest : List ℕ) (p : X) (front back : List ℕ) → b ∷ rest ≡ front ++ delimiter ∷ back → K front (word p) → ⊥
    none_at b ne none rest p [] back e h = ne (cc)
    none_at b ne none rest p (x ∷ front) back e h = let s : x ≡ b = cc in none front (word p) (rw s at h)

    pub word_none : (b : ℕ) → (b ≡ delimiter → ⊥) → ((rest : List ℕ) (v : V) → K (b ∷ rest) v → ⊥) → (rest : List ℕ) (p : X) → IsPairText word value K D delimiter (b ∷ rest) p → ⊥
    word_none b ne none rest p h = none_at b ne none rest p h.front h.back h.whole h.begins

    begun_at : (b : ℕ) → (b ≡ delimiter → ⊥) → (rest : List ℕ) (p : X) (front back : List ℕ) → b ∷ rest ≡ front ++ delimiter ∷ back → K front (word p) → (more : List ℕ) × (v : V) × K (b ∷ more) v
    begun_at b ne rest p [] back e h = absurd (ne (cc))
    begun_at b ne rest p (x ∷ front) back e h = let s : x ≡ b = cc in (front, word p, rw s at h)

    -- A byte other than the delimiter begins a word.
    pub word_begun : (b : ℕ) → (b ≡ delimiter → ⊥) → (rest : List ℕ) (p : X) → IsPairText word value K D delimiter (b ∷ rest) p → (more : List ℕ) × (v : V) × K (b ∷ more) v
    word_begun b ne rest p h = begun_at b ne rest p h.front h.back h.whole h.begins

  module _ (K K' : List ℕ → V → Type 0) (D D' : List ℕ → W → Type 0) where
    -- Pairs by relations that hold alike.
    pub pair_as : ((rest : List ℕ) (v : V) → K rest v → K' rest v) → ((rest : List ℕ) (w : W) → D rest w → D' rest w) → (rest : List ℕ) (p : X) → IsPairText word value K D delimiter rest p → IsPairText word value K' D' delimiter rest p
    pair_as f g rest p h = record { front = h.front; back = h.back; whole = h.whole; begins = f h.front (word p) h.begins; ends = g h.back (value p) h.ends }

    pub pair_alike : ((rest : List ℕ) (v : V) → K' rest v ↔ K rest v) → ((rest : List ℕ) (w : W) → D' rest w ↔ D rest w) → (rest : List ℕ) (p : X) → IsPairText word value K' D' delimiter rest p ↔ IsPairText word value K D delimiter rest p
    pair_alike f g rest p = (
      λ h. record { front = h.front; back = h.back; whole = h.whole; begins = (f h.front (word p)).0 h.begins; ends = (g h.back (value p)).0 h.ends },
      λ h. record { front = h.front; back = h.back; whole = h.whole; begins = (f h.front (word p)).1 h.begins; ends = (g h.back (value p)).1 h.ends },
    )

  module _ (K K' : List ℕ → V → Type 0) (D : List ℕ → W → Type 0) where
    taken_at : (b : ℕ) → (b ≡ delimiter → ⊥) → ((rest : List ℕ) (v : V) → K' rest v ↔ K (b ∷ rest) v) →
        (rest : List ℕ) (p : X) (front back : List ℕ) → b ∷ rest ≡ front ++ delimiter ∷ back → K front (word p) → D back (value p) → IsPairText word value K' D delimiter rest p
    taken_at b ne f rest p [] back e h k = absurd (ne (cc))
    taken_at b ne f rest p (x ∷ front) back e h k =
        let s : x ≡ b = cc in
        record { front = front; back = back; whole = cc; begins = (f front (word p)).1 (rw s at h); ends = k }

    -- A byte of the word.
    pub word_taken : (b : ℕ) → (b ≡ delimiter → ⊥) → ((rest : List ℕ) (v : V) → K' rest v ↔ K (b ∷ rest) v) → (rest : List ℕ) (p : X) → IsPairText word value K' D delimiter rest p ↔ IsPairText word value K D delimiter (b ∷ rest) p
    word_taken b ne f rest p = (
      λ h. record { front = b ∷ h.front; back = h.back; whole = ap (λ x. b ∷ x) h.whole; begins = (f h.front (word p)).0 h.begins; ends = h.ends },
      λ h. taken_at b ne f rest p h.front h.back h.whole h.begins h.ends,
    )

-- What is left of a pair whose word is ended.
module _ {V W X : Type 0} (word : X → V) (value : X → W) (K : List ℕ → V → Type 0) (delimiter : ℕ) where
  pub value_taken : (D D' : List ℕ → W → Type 0) (b : ℕ) → ((rest : List ℕ) (w : W) → D' rest w ↔ D (b ∷ rest) w) → (rest : List ℕ) (p : X) → PairRest word value K D' InValue delimiter rest p ↔ PairRest word value K D InValue delimiter (b ∷ rest) p
  value_taken D D' b f rest p = (λ h. (h.0, (f rest (value p)).0 h.1), λ h. (h.0, (f rest (value p)).1 h.1))

  pub value_same : (D D' : List ℕ → W → Type 0) → ((rest : List ℕ) (w : W) → D' rest w ↔ D rest w) → (rest : List ℕ) (p : X) → PairRest word value K D' InValue delimiter rest p ↔ PairRest word value K D InValue delimiter rest p
  value_same D D' f rest p = (λ h. (h.0, (f rest (value p)).0 h.1), λ h. (h.0, (f rest (value p)).1 h.1))

  pub value_stops : (D : List ℕ → W → Type 0) (separator : ℕ) → Stops D separator → Stops (PairRest word value K D InValue delimiter) separator
  value_stops D separator stops front more p q h k = stops front more (value p) (value q) h.1 k.1

  module _ (paired : V → W → X) (whole : (p : X) → paired (word p) (value p) ≡ p) where
    pub same_pair : (p q : X) → word p ≡ word q → value p ≡ value q → p ≡ q
    same_pair p q e f = sym (whole p) ∙ (ap (λ v. paired v (value p)) e ∙ ap (λ w. paired (word q) w) f) ∙ whole q

    pub pair_one : (D : List ℕ → W → Type 0) → LacksByte K delimiter → HasOneText K → HasOneText D → HasOneText (IsPairText word value K D delimiter)
    pair_one D lacks one two text p q h k =
        let s = pair_cut word value delimiter K D D lacks text p q h k in
        same_pair p q (one k.front (word p) (word q) (rw (← s.0) h.begins) k.begins) (two k.back (value p) (value q) (rw (← s.1) h.ends) k.ends)

    pub value_one : (D : List ℕ → W → Type 0) → ((v u : V) → K [] v → K [] u → v ≡ u) → HasOneText D → HasOneText (PairRest word value K D InValue delimiter)
    value_one D one two = λ text p q h k. same_pair p q (one (word p) (word q) h.0 k.0) (two text (value p) (value q) h.1 k.1)

-- Texts with a separator before each.
module _ {X : Type 0} (separator : ℕ) where
  led_to : (P R : List ℕ → X → Type 0) (rest : List ℕ) (ps : List X) → IsList P R separator rest ps → AreLedFrom P R separator (separator ∷ rest) ps
  led_to P R rest [] h = absurd h
  led_to P R rest (p ∷ ps) h = (rest, refl, h)

  led_from : (P R : List ℕ → X → Type 0) (rest : List ℕ) (ps : List X) → AreLedFrom P R separator (separator ∷ rest) ps → IsList P R separator rest ps
  led_from P R rest [] h = absurd (no_cons separator rest h)
  led_from P R rest (p ∷ ps) h = let t : rest ≡ h.0 = (let e = h.1 in cc) in rw t h.2

  -- The separator before the first.
  pub led_next : (items : List X) (P R : List ℕ → X → Type 0) (rest : List ℕ) (all : List X) → IsListAfter items P R separator rest all ↔ AreLedAfter Before items P R separator (separator ∷ rest) all
  led_next items P R rest all = (λ h. (h.0, h.1, led_to P R rest h.0 h.2), λ h. (h.0, h.1, led_from P R rest h.0 h.2))

  other_at : (b : ℕ) → (b ≡ separator → ⊥) → (P R : List ℕ → X → Type 0) (rest : List ℕ) (ps : List X) → AreLedFrom P R separator (b ∷ rest) ps → ⊥
  other_at b ne P R rest [] h = no_cons b rest h
  other_at b ne P R rest (p ∷ ps) h = ne (let e = h.1 in cc)

  -- Nothing but the separator comes before the first.
  pub led_none : (b : ℕ) → (b ≡ separator → ⊥) → (items : List X) (P R : List ℕ → X → Type 0) (rest : List ℕ) (all : List X) → AreLedAfter Before items P R separator (b ∷ rest) all → ⊥
  led_none b ne items P R rest all h = other_at b ne P R rest h.0 h.2

  pub led_begun : (b : ℕ) (P R : List ℕ → X → Type 0) (rest : List ℕ) (ps : List X) → AreLedFrom P R separator (b ∷ rest) ps → b ≡ separator
  led_begun b P R rest [] h = absurd (no_cons b rest h)
  led_begun b P R rest (p ∷ ps) h = let e = h.1 in cc

  -- The first by a relation that holds alike.
  first_as : (P Q R : List ℕ → X → Type 0) → ((text : List ℕ) (p : X) → P text p → Q text p) → (text : List ℕ) (ps : List X) → IsList P R separator text ps → IsList Q R separator text ps
  first_as P Q R f text [] h = h
  first_as P Q R f text (p ∷ []) h = f text p h
  first_as P Q R f text (p ∷ q ∷ ps) h = (h.0, h.1, h.2, f h.0 p h.3, h.4)

  led_first : (P Q R : List ℕ → X → Type 0) → ((text : List ℕ) (p : X) → P text p → Q text p) → (text : List ℕ) (ps : List X) → AreLedFrom P R separator text ps → AreLedFrom Q R separator text ps
  led_first P Q R f text [] h = h
  led_first P Q R f text (p ∷ ps) h = (h.0, h.1, first_as P Q R f h.0 (p ∷ ps) h.2)

  pub led_new : (F R : List ℕ → X → Type 0) → ((rest : List ℕ) (p : X) → F rest p ↔ R rest p) → (rest : List ℕ) (all : List X) → AreLedAfter Before [] F R separator rest all ↔ AreLed R separator rest all
  led_new F R f rest all =
      (λ h. rw h.1 (led_first F R R (λ r p. (f r p).0) rest h.0 h.2), λ h. (all, refl, led_first R F R (λ r p. (f r p).1) rest all h))

  led_one : (P R : List ℕ → X → Type 0) → Stops P separator → Stops R separator → HasOneText P → HasOneText R →
      (text : List ℕ) (ps qs : List X) → AreLedFrom P R separator text ps → AreLedFrom P R separator text qs → ps ≡ qs
  led_one P R sp sr one_p one_r text [] [] h k = refl
  led_one P R sp sr one_p one_r text [] (q ∷ qs) h k = absurd (no_cons separator k.0 (sym k.1 ∙ h))
  led_one P R sp sr one_p one_r text (p ∷ ps) [] h k = absurd (no_cons separator h.0 (sym h.1 ∙ k))
  led_one P R sp sr one_p one_r text (p ∷ ps) (q ∷ qs) h k =
      let t : h.0 ≡ k.0 = (let e : separator ∷ h.0 ≡ separator ∷ k.0 = sym h.1 ∙ k.1 in cc) in
      list_one separator P R sp sr one_p one_r k.0 (p ∷ ps) (q ∷ qs) (rw (← t) h.2) k.2

  pub led_after_one : (stage : Stage) (items : List X) (P R : List ℕ → X → Type 0) → Stops P separator → Stops R separator → HasOneText P → HasOneText R →
      (rest : List ℕ) (v w : List X) → AreLedAfter stage items P R separator rest v → AreLedAfter stage items P R separator rest w → v ≡ w
  led_after_one Before items P R sp sr one_p one_r rest v w h k = h.1 ∙ ap (λ x. items ++ x) (led_one P R sp sr one_p one_r rest h.0 k.0 h.2 k.2) ∙ sym k.1
  led_after_one InWord items P R sp sr one_p one_r rest v w h k = list_after_one separator P R items sp sr one_p one_r rest v w h k
  led_after_one InValue items P R sp sr one_p one_r rest v w h k = list_after_one separator P R items sp sr one_p one_r rest v w h k

  led_bytes : (P R : List ℕ → X → Type 0) → separator < 256 → ((text : List ℕ) (p : X) → P text p → AreBytes text) → ((text : List ℕ) (p : X) → R text p → AreBytes text) →
      (text : List ℕ) (ps : List X) → AreLedFrom P R separator text ps → AreBytes text
  led_bytes P R small f g text [] h = rw h tt
  led_bytes P R small f g text (p ∷ ps) h = rw h.1 (small, list_bytes P R separator small f g h.0 (p ∷ ps) h.2)

  pub led_after_bytes : (stage : Stage) (items : List X) (P R : List ℕ → X → Type 0) → separator < 256 → ((text : List ℕ) (p : X) → P text p → AreBytes text) → ((text : List ℕ) (p : X) → R text p → AreBytes text) →
      (rest : List ℕ) (all : List X) → AreLedAfter stage items P R separator rest all → AreBytes rest
  led_after_bytes Before items P R small f g rest all h = led_bytes P R small f g rest h.0 h.2
  led_after_bytes InWord items P R small f g rest all h = list_bytes P R separator small f g rest h.0 h.2
  led_after_bytes InValue items P R small f g rest all h = list_bytes P R separator small f g rest h.0 h.2

-- Words that are all different.
module _ {V X : Type 0} (word : X → V) where
  pub words_push : (ps : List X) (p : X) → AreDistinct (map word ps) → LacksValue (word p) (map word ps) → AreDistinct (map word (ps ++ p ∷ []))
  words_push ps p d lacks = rw (map-append word ps (p ∷ [])) (distinct_push (map word ps) (word p) d lacks)

  pub words_pushed : (ps new : List X) (p : X) → new ≡ ps ++ p ∷ [] → AreDistinct (map word ps) → LacksValue (word p) (map word ps) → AreDistinct (map word new)
  words_pushed ps new p e d lacks = rw e (words_push ps p d lacks)

  -- A word that is there already.
  pub word_twice : (f : V → Bool) (ps qs : List X) (p : X) → any_value f (map word ps) ≡ true → ((v : V) → f v ≡ true → v ≡ word p) → AreDistinct (map word (ps ++ p ∷ qs)) → ⊥
  word_twice f ps qs p there same d = twice f (map word ps) (map word qs) (word p) there same (rw (map-append word ps (p ∷ qs)) at d)

-- Whether the text may end.
abbrev pub ends_at : Stage → Bool → Bool
ends_at Before e = true
ends_at InWord e = false
ends_at InValue e = e

module _ {V W X : Type 0} (word : X → V) (value : X → W) (paired : V → W → X) (has_word : (v : V) (w : W) → word (paired v w) ≡ v) (has_value : (v : V) (w : W) → value (paired v w) ≡ w) where
  -- A pair whose word is new.
  pub paired_rest : (K : List ℕ → V → Type 0) (D : List ℕ → W → Type 0) (delimiter : ℕ) (front back : List ℕ) (v : V) (w : W) → K front v → D back w → IsPairText word value K D delimiter (front ++ delimiter ∷ back) (paired v w)
  paired_rest K D delimiter front back v w h k = record { front = front; back = back; whole = refl; begins = rw (has_word v w) h; ends = rw (has_value v w) k }

  -- A pair whose word is ended.
  pub paired_ended : (K : List ℕ → V → Type 0) (D : List ℕ → W → Type 0) (back : List ℕ) (v : V) (w : W) → K [] v → D back w → K [] (word (paired v w)) × D back (value (paired v w))
  paired_ended K D back v w h k = (rw (has_word v w) h, rw (has_value v w) k)

  module _ (items : List X) (R : List ℕ → X → Type 0) (separator delimiter : ℕ) (K : List ℕ → V → Type 0) (D : List ℕ → W → Type 0) (d : AreDistinct (map word items)) where
    -- The words of one more pair.
    one_more : (v : V) (w : W) → LacksValue v (map word items) → AreDistinct (map word (items ++ paired v w ∷ []))
    one_more v w lacks = words_push word items (paired v w) d (rw (has_word v w) lacks)

    pub pairs_completes : (stage : Stage) → ((rest : List ℕ) × (v : V) × K rest v × LacksValue v (map word items)) → ((rest : List ℕ) × (w : W) × D rest w) →
        (stage ≡ InValue → (v : V) × K [] v × LacksValue v (map word items)) → (rest : List ℕ) × (all : List X) × ArePairsAfter word stage items (PairRest word value K D stage delimiter) R separator rest all
    pairs_completes Before c e f = ([], items ++ [], (([], refl, refl), rw (append-nil items) d))
    pairs_completes InWord c e f =
        let p = paired c.1 e.1 in
        (c.0 ++ delimiter ∷ e.0, items ++ p ∷ [], ((p ∷ [], refl, paired_rest K D delimiter c.0 e.0 c.1 e.1 c.2 e.2), one_more c.1 e.1 c.3))
    pairs_completes InValue c e f =
        let v = f refl in
        let p = paired v.0 e.1 in
        (e.0, items ++ p ∷ [], ((p ∷ [], refl, (rw (has_word v.0 e.1) v.1, rw (has_value v.0 e.1) e.2)), one_more v.0 e.1 v.2))

    nil_value : (ps : List X) → IsList (PairRest word value K D InValue delimiter) R separator [] ps → (w : W) × D [] w
    nil_value [] h = absurd h
    nil_value (p ∷ []) h = (value p, h.1)
    nil_value (p ∷ q ∷ ps) h = absurd (not_nil separator h.0 h.1 h.2)

    nil_word : (ps : List X) → IsList (PairRest word value K D InWord delimiter) R separator [] ps → ⊥
    nil_word [] h = h
    nil_word (p ∷ []) h = pair_nil word value delimiter K D p h
    nil_word (p ∷ q ∷ ps) h = not_nil separator h.0 h.1 h.2

    pub pairs_ends : (stage : Stage) (e : Bool) → IsTrue e ↔ ((w : W) × D [] w) → (stage ≡ InValue → (v : V) × K [] v × LacksValue v (map word items)) →
        IsTrue (ends_at stage e) ↔ ((all : List X) × ArePairsAfter word stage items (PairRest word value K D stage delimiter) R separator [] all)
    pairs_ends Before e is f = (λ _. (items ++ [], (([], refl, refl), rw (append-nil items) d)), λ _. refl)
    pairs_ends InWord e is f = (λ h. absurd (cc), λ h. absurd (nil_word h.1.0.0 h.1.0.2))
    pairs_ends InValue e is f = (
      λ h. (let v = f refl in let w = is.0 h in let p = paired v.0 w.0 in
          (items ++ p ∷ [], ((p ∷ [], refl, (rw (has_word v.0 w.0) v.1, rw (has_value v.0 w.0) w.1)), one_more v.0 w.0 v.2))),
      λ h. is.1 (nil_value h.1.0.0 h.1.0.2),
    )

-- A word that has ended and that is not there.
pub new_word : {V : Type 0} (K : List ℕ → V → Type 0) (f : V → Bool) → ((v : V) → IsTrue (f v) ↔ K [] v) → (vs : List V) → IsFalse (any_value f vs) → ((v : V) × K [] v) → (v : V) × K [] v × LacksValue v vs
new_word K f is vs none h = (h.0, h.1, lacks_value f vs h.0 none ((is h.0).1 h.1) (λ x e. (is x).1 (rw e h.1)))

-- Any step of the word leaves it without the delimiter.
pub lacks_stepped : {V E : Type 0} (delimiter : ℕ) (r : Result Bool E) (K K' : List ℕ → V → Type 0) (b : ℕ) →
    IfTaken r ((rest : List ℕ) (v : V) → K' rest v ↔ K (b ∷ rest) v) →
    UnlessTaken r ((rest : List ℕ) (v : V) → K' rest v ↔ K rest v) → LacksByte K delimiter → LacksByte K' delimiter
lacks_stepped delimiter (Ok true) K K' b f g lacks front more v h = lacks (b ∷ front) more v ((f (front ++ delimiter ∷ more) v).0 h)
lacks_stepped delimiter (Ok false) K K' b f g lacks front more v h = lacks front more v ((g (front ++ delimiter ∷ more) v).0 h)
lacks_stepped delimiter (Err e) K K' b f g lacks front more v h = lacks front more v ((g (front ++ delimiter ∷ more) v).0 h)

-- The steps of pairs.
module _ {V W X : Type 0} (word : X → V) (value : X → W) (delimiter separator : ℕ) (items : List X) (R : List ℕ → X → Type 0) (K : List ℕ → V → Type 0) (D : List ℕ → W → Type 0) where
  -- The separator before the first.
  pub step_first : (rest : List ℕ) (all : List X) → ArePairsAfter word InWord items (IsPairText word value K D delimiter) R separator rest all ↔ ArePairsAfter word Before items (IsPairText word value K D delimiter) R separator (separator ∷ rest) all
  step_first rest all = with_distinct (led_next separator items (IsPairText word value K D delimiter) R rest all)

  -- A byte other than the delimiter, where the word isn't ended.
  pub word_step_taken : {E : Type 0} (r : Result Bool E) (K' : List ℕ → V → Type 0) (b : ℕ) → (b ≡ delimiter → ⊥) → LacksByte K delimiter → Stops D separator → ((more : List ℕ) × (p : X) × IsPairText word value K' D delimiter more p) →
      IfTaken r ((rest : List ℕ) (v : V) → K' rest v ↔ K (b ∷ rest) v) →
      IfTaken r ((rest : List ℕ) (all : List X) → ArePairsAfter word InWord items (IsPairText word value K' D delimiter) R separator rest all ↔ ArePairsAfter word InWord items (IsPairText word value K D delimiter) R separator (b ∷ rest) all)
  word_step_taken (Ok true) K' b ne lacks stops c f =
      λ rest all. with_distinct (list_taken separator (IsPairText word value K D delimiter)
      (IsPairText word value K' D delimiter) R b (pair_stops word value delimiter K D separator lacks stops) c
      (word_taken word value delimiter K K' D b ne f) items rest all)
  word_step_taken (Ok false) K' b ne lacks stops c f = tt
  word_step_taken (Err e) K' b ne lacks stops c f = tt

  pub word_step_refused : {E : Type 0} (r : Result Bool E) (b : ℕ) → (b ≡ delimiter → ⊥) → IfRefused r ((rest : List ℕ) (v : V) → K (b ∷ rest) v → ⊥) →
      IfRefused r ((rest : List ℕ) (all : List X) → ArePairsAfter word InWord items (IsPairText word value K D delimiter) R separator (b ∷ rest) all → ⊥)
  word_step_refused (Ok true) b ne f = tt
  word_step_refused (Ok false) b ne f = λ rest all h. list_none separator (IsPairText word value K D delimiter) R b (word_none word value delimiter K D b ne f) (λ e p k. pair_nil word value delimiter K D p k) items rest all h.0
  word_step_refused (Err e) b ne f = tt

  word_same : (K' : List ℕ → V → Type 0) → ((rest : List ℕ) (v : V) → K' rest v ↔ K rest v) →
      (rest : List ℕ) (all : List X) → ArePairsAfter word InWord items (IsPairText word value K' D delimiter) R separator rest all ↔ ArePairsAfter word InWord items (IsPairText word value K D delimiter) R separator rest all
  word_same K' f rest all = with_distinct (list_same separator (IsPairText word value K D delimiter) (IsPairText word value K' D delimiter) R (pair_alike word value delimiter K K' D D f (λ t w. (λ h. h, λ h. h))) items rest all)

  pub word_step_same : {E : Type 0} (r : Result Bool E) (K' : List ℕ → V → Type 0) → UnlessTaken r ((rest : List ℕ) (v : V) → K' rest v ↔ K rest v) →
      UnlessTaken r ((rest : List ℕ) (all : List X) → ArePairsAfter word InWord items (IsPairText word value K' D delimiter) R separator rest all ↔ ArePairsAfter word InWord items (IsPairText word value K D delimiter) R separator rest all)
  word_step_same (Ok true) K' f = tt
  word_step_same (Ok false) K' f = word_same K' f
  word_step_same (Err e) K' f = word_same K' f

  -- The delimiter, where the word can't end.
  pub delimiter_refused : LacksByte K delimiter → ((v : V) → K [] v → ⊥) → (rest : List ℕ) (all : List X) → ArePairsAfter word InWord items (IsPairText word value K D delimiter) R separator (delimiter ∷ rest) all → ⊥
  delimiter_refused lacks none rest all h =
      list_none separator (IsPairText word value K D delimiter) R delimiter (λ t p k. none (word p) ((delimiter_taken word value delimiter K D lacks t p).1 k).0) (λ e p k. pair_nil word value delimiter K D p k) items rest all h.0

  module _ (lacks : LacksByte K delimiter) (one : HasOneText K) (f : V → Bool) (is : (v : V) → f v ≡ true → K [] v) (there : any_value f (map word items) ≡ true) where
    old_pair : (rest : List ℕ) (p : X) (qs : List X) → IsPairText word value K D delimiter (delimiter ∷ rest) p → AreDistinct (map word (items ++ p ∷ qs)) → ⊥
    old_pair rest p qs h d = word_twice word f items qs p there (λ v t. one [] v (word p) (is v t) ((delimiter_taken word value delimiter K D lacks rest p).1 h).0) d

    old_front : (rest : List ℕ) (p : X) (qs : List X) (front back : List ℕ) → delimiter ∷ rest ≡ front ++ separator ∷ back → IsPairText word value K D delimiter front p → AreDistinct (map word (items ++ p ∷ qs)) → ⊥
    old_front rest p qs [] back e h d = pair_nil word value delimiter K D p h
    old_front rest p qs (x ∷ front) back e h d = let s : x ≡ delimiter = cc in old_pair front p qs (rw s at h) d

    old_list : (rest : List ℕ) (ps : List X) → IsList (IsPairText word value K D delimiter) R separator (delimiter ∷ rest) ps → AreDistinct (map word (items ++ ps)) → ⊥
    old_list rest [] h d = h
    old_list rest (p ∷ []) h d = old_pair rest p [] h d
    old_list rest (p ∷ q ∷ ps) h d = old_front rest p (q ∷ ps) h.0 h.1 h.2 h.3 d

    -- The delimiter, where the word is there already.
    pub old_word_refused : (rest : List ℕ) (all : List X) → ArePairsAfter word InWord items (IsPairText word value K D delimiter) R separator (delimiter ∷ rest) all → ⊥
    old_word_refused rest all h = old_list rest h.0.0 h.0.2 (rw h.0.1 at h.1)

  -- The delimiter, where the word ends. K' is of the word alone.
  pub delimiter_step : (K' : List ℕ → V → Type 0) → ((v : V) → K' [] v ↔ K [] v) → LacksByte K delimiter → Stops D separator → ((more : List ℕ) × (p : X) × PairRest word value K' D InValue delimiter more p) → (rest : List ℕ) (all : List X) →
      ArePairsAfter word InValue items (PairRest word value K' D InValue delimiter) R separator rest all ↔ ArePairsAfter word InWord items (IsPairText word value K D delimiter) R separator (delimiter ∷ rest) all
  delimiter_step K' same lacks stops c rest all = with_distinct (list_taken separator (IsPairText word value K D delimiter) (PairRest word value K' D InValue delimiter) R delimiter (pair_stops word value delimiter K D separator lacks stops) c
      (λ t p. (λ h. (delimiter_taken word value delimiter K D lacks t p).0 ((same (word p)).0 h.0, h.1), λ h. (let k = (delimiter_taken word value delimiter K D lacks t p).1 h in ((same (word p)).1 k.0, k.1)))) items rest all)

  -- A byte of the value.
  pub value_step : (D' : List ℕ → W → Type 0) (b : ℕ) → Stops D separator →
      ((more : List ℕ) × (p : X) × PairRest word value K D' InValue delimiter more p) →
      ((rest : List ℕ) (w : W) → D' rest w ↔ D (b ∷ rest) w) → (rest : List ℕ) (all : List X) →
      ArePairsAfter word InValue items (PairRest word value K D' InValue delimiter) R separator rest all ↔ ArePairsAfter word InValue items (PairRest word value K D InValue delimiter) R separator (b ∷ rest) all
  value_step D' b stops c f rest all =
      with_distinct (list_taken separator (PairRest word value K D InValue delimiter)
      (PairRest word value K D' InValue delimiter) R b (value_stops word value K delimiter D separator stops) c
      (value_taken word value K delimiter D D' b f) items rest all)

  pub value_step_same : (D' : List ℕ → W → Type 0) → ((rest : List ℕ) (w : W) → D' rest w ↔ D rest w) → (rest : List ℕ) (all : List X) →
      ArePairsAfter word InValue items (PairRest word value K D' InValue delimiter) R separator rest all ↔ ArePairsAfter word InValue items (PairRest word value K D InValue delimiter) R separator rest all
  value_step_same D' f rest all = with_distinct (list_same separator (PairRest word value K D InValue delimiter) (PairRest word value K D' InValue delimiter) R (value_same word value K delimiter D D' f) items rest all)

  pub value_step_refused : (b : ℕ) → ((rest : List ℕ) (w : W) → D (b ∷ rest) w → ⊥) → (b ≡ separator → (w : W) → D [] w → ⊥) → (rest : List ℕ) (all : List X) →
      ArePairsAfter word InValue items (PairRest word value K D InValue delimiter) R separator (b ∷ rest) all → ⊥
  value_step_refused b none ended rest all h = list_none separator (PairRest word value K D InValue delimiter) R b (λ t p k. none t (value p) k.1) (λ e p k. ended e (value p) k.1) items rest all h.0

  -- The separator, where the value ends.
  pub pair_step : (F : List ℕ → X → Type 0) (p : X) → K [] (word p) → D [] (value p) →
      HasOneText (PairRest word value K D InValue delimiter) → ((rest : List ℕ) (w : W) → D (separator ∷ rest) w → ⊥) →
      ((rest : List ℕ) (q : X) → F rest q ↔ R rest q) → (rest : List ℕ) (all : List X) →
      ArePairsAfter word InWord (items ++ p ∷ []) F R separator rest all ↔ ArePairsAfter word InValue items (PairRest word value K D InValue delimiter) R separator (separator ∷ rest) all
  pair_step F p k d one none f rest all = with_distinct (list_next separator (PairRest word value K D InValue delimiter) F R p (k, d) one (λ t q h. none t (value q) h.1) f items rest all)

  -- The pairs at the end of a text.
  pub pairs_value : (p : X) (all : List X) → all ≡ items ++ p ∷ [] → K [] (word p) → D [] (value p) → AreDistinct (map word all) → ArePairsAfter word InValue items (PairRest word value K D InValue delimiter) R separator [] all
  pairs_value p all e k d distinct = ((p ∷ [], e, (k, d)), distinct)

-- Which bytes come next.
module _ {V W X : Type 0} (word : X → V) (value : X → W) (paired : V → W → X) (has_word : (v : V) (w : W) → word (paired v w) ≡ v) (has_value : (v : V) (w : W) → value (paired v w) ≡ w)
    (delimiter separator : ℕ) (items : List X) (R : List ℕ → X → Type 0) (K : List ℕ → V → Type 0) (D : List ℕ → W → Type 0) (d : AreDistinct (map word items)) where
  more_words : (v : V) (w : W) → LacksValue v (map word items) → AreDistinct (map word (items ++ paired v w ∷ []))
  more_words v w lacks = words_push word items (paired v w) d (rw (has_word v w) lacks)

  first_from : (b : ℕ) → b ≡ separator → ((rest : List ℕ) × (v : V) × K rest v × LacksValue v (map word items)) → ((rest : List ℕ) × (w : W) × D rest w) →
      (rest : List ℕ) × (all : List X) × ArePairsAfter word Before items (IsPairText word value K D delimiter) R separator (b ∷ rest) all
  first_from b e k c =
      let p = paired k.1 c.1 in
      let body = k.0 ++ delimiter ∷ c.0 in
      (body, items ++ p ∷ [], ((p ∷ [], refl, (body, ap (λ x. x ∷ body) e, paired_rest word value paired has_word has_value K D delimiter k.0 c.0 k.1 c.1 k.2 c.2)), more_words k.1 c.1 k.3))

  pub first_begins : (n : Bool) (b : ℕ) → IsTrue n ↔ (b ≡ separator) → ((rest : List ℕ) × (v : V) × K rest v × LacksValue v (map word items)) → ((rest : List ℕ) × (w : W) × D rest w) →
      IsTrue n ↔ ((rest : List ℕ) × (all : List X) × ArePairsAfter word Before items (IsPairText word value K D delimiter) R separator (b ∷ rest) all)
  first_begins n b is k c = (λ h. first_from b (is.0 h) k c, λ h. is.1 (led_begun separator b (IsPairText word value K D delimiter) R h.0 h.2.0.0 h.2.0.2))

  word_to : (b : ℕ) → (b ≡ delimiter → ⊥) → ((more : List ℕ) × (p : X) × IsPairText word value K D delimiter (b ∷ more) p) ⊎ ((b ≡ separator) × ((p : X) × IsPairText word value K D delimiter [] p)) → (more : List ℕ) × (v : V) × K (b ∷ more) v
  word_to b ne (inl h) = word_begun word value delimiter K D b ne h.0 h.1 h.2
  word_to b ne (inr h) = absurd (pair_nil word value delimiter K D h.1.0 h.1.1)

  pub word_begins : (b : ℕ) → (b ≡ delimiter → ⊥) → (((more : List ℕ) × (v : V) × K (b ∷ more) v) → (rest : List ℕ) × (v : V) × K (b ∷ rest) v × LacksValue v (map word items)) → ((rest : List ℕ) × (w : W) × D rest w) →
      ((more : List ℕ) × (v : V) × K (b ∷ more) v) ↔ ((rest : List ℕ) × (all : List X) × ArePairsAfter word InWord items (IsPairText word value K D delimiter) R separator (b ∷ rest) all)
  word_begins b ne longer c = (
    λ h. (let k = longer h in let p = paired k.1 c.1 in
        (k.0 ++ delimiter ∷ c.0, items ++ p ∷ [], ((p ∷ [], refl, paired_rest word value paired has_word has_value K D delimiter (b ∷ k.0) c.0 k.1 c.1 k.2 c.2), more_words k.1 c.1 k.3))),
    λ h. word_to b ne (list_begun separator (IsPairText word value K D delimiter) R b h.0 h.2.0.0 h.2.0.2),
  )

  module _ (lacks : LacksByte K delimiter) (one : HasOneText K) (f : V → Bool) (is : (v : V) → IsTrue (f v) ↔ K [] v) (e : Bool) (ended : IsTrue e ↔ ((v : V) × K [] v)) where
    delimiter_from : (n : Bool) → any_value f (map word items) ≡ n → ((rest : List ℕ) × (w : W) × D rest w) →
        IsTrue (e && not n) → (rest : List ℕ) × (all : List X)
        × ArePairsAfter word InWord items (IsPairText word value K D delimiter) R separator (delimiter ∷ rest) all
    delimiter_from true q c h = absurd (let k = (and_parts e false h).1 in cc)
    delimiter_from false q c h =
        let k = new_word K f is (map word items) q (ended.0 (and_parts e true h).0) in
        let p = paired k.0 c.1 in
        (c.0, items ++ p ∷ [], ((p ∷ [], refl, (delimiter_taken word value delimiter K D lacks c.0 p).0 (paired_ended word value paired has_word has_value K D c.0 k.0 c.1 k.1 c.2)), more_words k.0 c.1 k.2))

    ended_word : ((more : List ℕ) × (p : X) × IsPairText word value K D delimiter (delimiter ∷ more) p) ⊎ ((delimiter ≡ separator) × ((p : X) × IsPairText word value K D delimiter [] p)) → IsTrue e
    ended_word (inl h) = ended.1 (word h.1, ((delimiter_taken word value delimiter K D lacks h.0 h.1).1 h.2).0)
    ended_word (inr h) = absurd (pair_nil word value delimiter K D h.1.0 h.1.1)

    delimiter_to : (n : Bool) → any_value f (map word items) ≡ n → (rest : List ℕ) (all : List X) → ArePairsAfter word InWord items (IsPairText word value K D delimiter) R separator (delimiter ∷ rest) all → IsTrue (e && not n)
    delimiter_to true q rest all h = absurd (old_word_refused word value delimiter separator items R K D lacks one f (λ v t. (is v).0 t) q rest all h)
    delimiter_to false q rest all h = and_from e true (ended_word (list_begun separator (IsPairText word value K D delimiter) R delimiter rest h.0.0 h.0.2)) refl

    pub delimiter_begins : ((rest : List ℕ) × (w : W) × D rest w) → IsTrue (e && not (any_value f (map word items))) ↔
        ((rest : List ℕ) × (all : List X)
        × ArePairsAfter word InWord items (IsPairText word value K D delimiter) R separator (delimiter ∷ rest) all)
    delimiter_begins c = (delimiter_from (any_value f (map word items)) refl c, λ h. delimiter_to (any_value f (map word items)) refl h.0 h.1 h.2)

  module _ (b : ℕ) (a n e : Bool) (is_a : IsTrue a ↔ ((more : List ℕ) × (w : W) × D (b ∷ more) w)) (is_n : IsTrue n ↔ (b ≡ separator)) (is_e : IsTrue e ↔ ((w : W) × D [] w)) where
    value_to : ((more : List ℕ) × (p : X) × PairRest word value K D InValue delimiter (b ∷ more) p) ⊎ ((b ≡ separator) × ((p : X) × PairRest word value K D InValue delimiter [] p)) → IsTrue (a || (n && e))
    value_to (inl h) = rw (is_a.1 (h.0, value h.1, h.2.1)) refl
    value_to (inr h) = rw (is_n.1 h.0, is_e.1 (value h.1.0, h.1.1.1)) (or_is a)

    value_next : (k : (v : V) × K [] v × LacksValue v (map word items)) → ((vs : List V) → (text : List ℕ) × (q : X) × R text q × LacksValue (word q) vs) → b ≡ separator → ((w : W) × D [] w) →
        (rest : List ℕ) × (all : List X) × ArePairsAfter word InValue items (PairRest word value K D InValue delimiter) R separator (b ∷ rest) all
    value_next k new s w =
        let p = paired k.0 w.0 in
        let q = new (map word (items ++ p ∷ [])) in (
          q.0,
          (items ++ p ∷ []) ++ q.1 ∷ [],
          (
            (p ∷ q.1 ∷ [], append_assoc items (p ∷ []) (q.1 ∷ []), ([], q.0, ap (λ x. x ∷ q.0) s, paired_ended word value paired has_word has_value K D [] k.0 w.0 k.1 w.1, q.2)),
            words_push word (items ++ p ∷ []) q.1 (more_words k.0 w.0 k.2) q.3,
          ),
        )

    value_from : (k : (v : V) × K [] v × LacksValue v (map word items)) → ((vs : List V) → (text : List ℕ) × (q : X) × R text q × LacksValue (word q) vs) → (x y z : Bool) → a ≡ x → n ≡ y → e ≡ z → IsTrue (x || (y && z)) →
        (rest : List ℕ) × (all : List X) × ArePairsAfter word InValue items (PairRest word value K D InValue delimiter) R separator (b ∷ rest) all
    value_from k new true y z i j l h =
        let w = is_a.0 i in
        let p = paired k.0 w.1 in
        (w.0, items ++ p ∷ [], ((p ∷ [], refl, paired_ended word value paired has_word has_value K D (b ∷ w.0) k.0 w.1 k.1 w.2), more_words k.0 w.1 k.2))
    value_from k new false true true i j l h = value_next k new (is_n.0 j) (is_e.0 l)
    value_from k new false true false i j l h = absurd (cc)
    value_from k new false false z i j l h = absurd (cc)

    pub value_begins : (k : (v : V) × K [] v × LacksValue v (map word items)) → ((vs : List V) → (text : List ℕ) × (q : X) × R text q × LacksValue (word q) vs) →
        IsTrue (a || (n && e)) ↔ ((rest : List ℕ) × (all : List X) × ArePairsAfter word InValue items (PairRest word value K D InValue delimiter) R separator (b ∷ rest) all)
    value_begins k new = (value_from k new a n e refl refl refl, λ h. value_to (list_begun separator (PairRest word value K D InValue delimiter) R b h.0 h.2.0.0 h.2.0.2))

-- A new pair.
pub new_pair : {V W X : Type 0} (word : X → V) (value : X → W) (paired : V → W → X) (has_word : (v : V) (w : W) →
    word (paired v w) ≡ v) (has_value : (v : V) (w : W) → value (paired v w) ≡ w) (delimiter : ℕ) (T : List ℕ → V →
    Type 0) (U : List ℕ → W → Type 0) →
    ((vs : List V) → (text : List ℕ) × (v : V) × T text v × LacksValue v vs) → ((text : List ℕ) × (w : W) × U text w) → (vs : List V) → (text : List ℕ) × (q : X) × IsPairText word value T U delimiter text q × LacksValue (word q) vs
new_pair word value paired has_word has_value delimiter T U new some vs =
    let k = new vs in
    let q = paired k.1 some.1 in
    (k.0 ++ delimiter ∷ some.0, q, paired_rest word value paired has_word has_value T U delimiter k.0 some.0 k.1 some.1 k.2 some.2, rw (has_word k.1 some.1) k.3)
