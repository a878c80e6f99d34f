-- What holds of lines of a key and what follows it.
use Rattle.std.proofs.Common.{◌≡◌, ℕ, ◌+◌, ◌<◌, ◌↔◌, inl, inr, Bool, true, false, not, ◌&&◌, Option, Some, None, List, [], ◌∷◌, ◌++◌, map, length, length-append, refl, sym, ◌∙◌, ap, append-nil, arith, IsTrue, IsFalse}
use Rattle.cg_text.specs.Token.{AreBytes, Spells, HasOneText}
use Rattle.cg_join.specs.Distinct.{AreDistinct, LacksValue, any_value}
use Rattle.cg_join.specs.DistinctLaws.{lacks_value}
use Rattle.cg_join.specs.Keyed.{AreKeyedLines, IsKeyed}
use Rattle.cg_join.specs.KeyedState.{AreKeyedAfter}
use Rattle.cg_join.specs.Line.{LacksByte}
use Rattle.cg_join.specs.Lines.{AreLinesFrom}
use Rattle.cg_join.specs.LinesLaws.{lines_as}
use Rattle.cg_join.specs.Pairs.{IsPairText}
use Rattle.cg_join.specs.PairsLaws.{delimiter_taken, pair_alike, pair_bytes, pair_nil, pair_one, same_pair, word_begun, word_none, word_taken, word_twice, words_push}
use Rattle.cg_join.specs.SequenceLaws.{cuts}
use Rattle.cg_join.specs.Spelling.{IsMappedText, spells_as}

pub none_some : {W : Type 0} (w : W) → None ≡ Some w → ⊥
none_some w e = cc

pub some_one : {W : Type 0} (v w : W) → Some v ≡ Some w → v ≡ w
some_one v w e = cc

no_cons : (b : ℕ) (rest : List ℕ) → b ∷ rest ≡ [] → ⊥
no_cons b rest e = cc

and_split : (e n : Bool) → IsFalse (e && not n) → IsTrue e → n ≡ true
and_split true true h k = refl
and_split true false h k = absurd (cc)
and_split false n h k = absurd (cc)

pub and_both : (e n : Bool) → IsTrue (e && not n) → IsTrue e × (n ≡ false)
and_both true true h = absurd (cc)
and_both true false h = (refl, refl)
and_both false n h = absurd (cc)

-- A list of one element, and one of none.
pub one_kept : {V : Type 0} (kept : List V) → length kept ≡ 1 → (v : V) × (kept ≡ v ∷ [])
one_kept [] e = absurd (omega (arith, e))
one_kept (v ∷ []) e = (v, refl)
one_kept (v ∷ w ∷ vs) e = absurd (omega (arith, e))

pub none_kept : {V : Type 0} (kept : List V) → length kept ≡ 0 → kept ≡ []
none_kept [] e = refl
none_kept (v ∷ vs) e = absurd (omega (arith, e))

pub only_kept : {V : Type 0} (v w : V) → v ∷ [] ≡ w ∷ [] → v ≡ w
only_kept v w e = cc

lacks_first : {V : Type 0} (v : V) (vs us : List V) → LacksValue v (vs ++ us) → LacksValue v vs
lacks_first v [] us h = tt
lacks_first v (w ∷ vs) us h = (h.0, lacks_first v vs us h.1)

pub distinct_first : {V : Type 0} (vs us : List V) → AreDistinct (vs ++ us) → AreDistinct vs
distinct_first [] us h = tt
distinct_first (v ∷ vs) us h = (lacks_first v vs us h.0, distinct_first vs us h.1)

lacks_in : {V : Type 0} (v u : V) (vs us : List V) → LacksValue v (vs ++ u ∷ us) → v ≡ u → ⊥
lacks_in v u [] us h e = h.0 e
lacks_in v u (w ∷ vs) us h e = lacks_in v u vs us h.1 e

-- The last of values that are all different.
pub distinct_last : {V : Type 0} (vs : List V) (u : V) → AreDistinct (vs ++ u ∷ []) → LacksValue u vs
distinct_last [] u h = tt
distinct_last (v ∷ vs) u h = ((λ e. lacks_in v u vs [] h.0 (sym e)), distinct_last vs u h.1)

-- The one value of a list, taken from its end.
pub popped : {V : Type 0} (kept left : List V) (v : V) → length kept ≡ 1 → kept ≡ left ++ v ∷ [] → (kept ≡ v ∷ []) × (left ≡ [])
popped kept [] v e f = (f, refl)
popped kept (w ∷ left) v e f = absurd (let n : length kept ≡ length (w ∷ (left ++ v ∷ [])) = ap length f in let m : length (left ++ v ∷ []) ≡ length left + 1 = length-append left (v ∷ []) in omega (arith, e, n, m))

-- A value that none of the values is.
pub new_lacks : {V : Type 0} (K : List ℕ → V → Type 0) (f : V → Bool) (e : Bool) → ((v : V) → IsTrue (f v) ↔ K [] v) → (vs : List V) → IsTrue (e && not (any_value f vs)) → (v : V) → K [] v → LacksValue v vs
new_lacks K f e is vs h v k = lacks_value f vs v (and_both e (any_value f vs) h).1 ((is v).1 k) (λ x q. (is x).1 (rw q k))

-- What is turned.
module _ {V W : Type 0} (P Q : List ℕ → V → Type 0) (f : V → W) where
  pub mapped_text_taken : (b : ℕ) → ((rest : List ℕ) (v : V) → P rest v ↔ Q (b ∷ rest) v) → (rest : List ℕ) (w : W) → IsMappedText P f rest w ↔ IsMappedText Q f (b ∷ rest) w
  mapped_text_taken b e rest w = (λ h. (h.0, (e rest h.0).0 h.1, h.2), λ h. (h.0, (e rest h.0).1 h.1, h.2))

  pub mapped_text_same : ((rest : List ℕ) (v : V) → P rest v ↔ Q rest v) → (rest : List ℕ) (w : W) → IsMappedText P f rest w ↔ IsMappedText Q f rest w
  mapped_text_same e rest w = (λ h. (h.0, (e rest h.0).0 h.1, h.2), λ h. (h.0, (e rest h.0).1 h.1, h.2))

pub mapped_text_none : {V W : Type 0} (Q : List ℕ → V → Type 0) (f : V → W) (b : ℕ) → ((rest : List ℕ) (v : V) → Q (b ∷ rest) v → ⊥) → (rest : List ℕ) (w : W) → IsMappedText Q f (b ∷ rest) w → ⊥
mapped_text_none Q f b none rest w h = none rest h.0 h.1

pub mapped_text_begins : {V W : Type 0} (Q : List ℕ → V → Type 0) (f : V → W) (b : ℕ) (n : Bool) → IsTrue n ↔ ((rest : List ℕ) × (v : V) × Q (b ∷ rest) v) → IsTrue n ↔ ((rest : List ℕ) × (w : W) × IsMappedText Q f (b ∷ rest) w)
mapped_text_begins Q f b n e = (λ h. (let k = e.0 h in (k.0, f k.1, (k.1, k.2, refl))), λ h. e.1 (h.0, h.2.0, h.2.1))

module _ {V W X : Type 0} (key : X → V) (value : X → W) (delimiter : ℕ) where
  -- A pair lacks each byte other than the delimiter that its word and its value lack.
  pub pair_lacks : (K : List ℕ → V → Type 0) (D : List ℕ → W → Type 0) (b : ℕ) → (delimiter ≡ b → ⊥) → LacksByte K b → LacksByte D b →
      (front more : List ℕ) (p : X) → IsPairText key value K D delimiter (front ++ b ∷ more) p → ⊥
  pair_lacks K D b ne k d front more p h =
      elim (cuts front (b ∷ more) h.front (delimiter ∷ h.back) h.whole) [
        | inl q ↦ ne (let e = q.1 in cc)
        | inr (inl q) ↦ (let s : q.0 ≡ b = (let e = q.3 in cc) in let m = rw (q.2, s) at h.begins in k front q.1 (key p) m)
        | inr (inr q) ↦ (let t : h.back ≡ q.1 ++ b ∷ more = (let e = q.3 in cc) in let m = rw t at h.ends in d q.1 more (value p) m)
      ]

-- The text of one line.
module _ {V W X : Type 0} (key : X → V) (value : X → W) (bare_value : Option W) (delimiter : ℕ) where
  -- A line lacks each other byte that its key and its value lack.
  pub keyed_lacks : (K : List ℕ → V → Type 0) (D : List ℕ → W → Type 0) (b : ℕ) → (delimiter ≡ b → ⊥) → LacksByte K b → LacksByte D b → LacksByte (IsKeyed key value K D bare_value delimiter) b
  keyed_lacks K D b ne k d front more p (inl h) = pair_lacks key value delimiter K D b ne k d front more p h
  keyed_lacks K D b ne k d front more p (inr h) = k front more (key p) h.0

  module _ (K : List ℕ → V → Type 0) (D : List ℕ → W → Type 0) where
    -- The empty line is a key alone.
    pub keyed_empty : (p : X) → IsKeyed key value K D bare_value delimiter [] p → K [] (key p) × (bare_value ≡ Some (value p))
    keyed_empty p (inl h) = absurd (pair_nil key value delimiter K D p h)
    keyed_empty p (inr h) = h

    pub keyed_bytes : delimiter < 256 → ((text : List ℕ) (v : V) → K text v → AreBytes text) → ((text : List ℕ) (w : W) → D text w → AreBytes text) →
        (text : List ℕ) (p : X) → IsKeyed key value K D bare_value delimiter text p → AreBytes text
    keyed_bytes small f g text p (inl h) = pair_bytes key value delimiter K D small f g text p h
    keyed_bytes small f g text p (inr h) = f text (key p) h.0

    pub keyed_one : (paired : V → W → X) → ((p : X) → paired (key p) (value p) ≡ p) → LacksByte K delimiter → HasOneText K → HasOneText D → HasOneText (IsKeyed key value K D bare_value delimiter)
    keyed_one paired whole lacks one two text p q (inl h) (inl k) = pair_one key value K delimiter paired whole D lacks one two text p q h k
    keyed_one paired whole lacks one two text p q (inl h) (inr k) = absurd (lacks h.front h.back (key q) (rw h.whole at k.0))
    keyed_one paired whole lacks one two text p q (inr h) (inl k) = absurd (lacks k.front k.back (key p) (rw k.whole at h.0))
    keyed_one paired whole lacks one two text p q (inr h) (inr k) =
        same_pair key value K delimiter paired whole p q (one text (key p) (key q) h.0 k.0) (some_one (value p) (value q) (sym h.1 ∙ k.1))

    -- The delimiter ends a key.
    pub keyed_marked : LacksByte K delimiter → (rest : List ℕ) (p : X) → IsKeyed key value K D bare_value delimiter (delimiter ∷ rest) p → K [] (key p) × D rest (value p)
    keyed_marked lacks rest p (inl h) = (delimiter_taken key value delimiter K D lacks rest p).1 h
    keyed_marked lacks rest p (inr h) = absurd (lacks [] rest (key p) h.0)

    -- The delimiter after the key v.
    pub keyed_delimiter : LacksByte K delimiter → HasOneText K → (v : V) → K [] v → (rest : List ℕ) (p : X) → ((v ∷ [] ≡ key p ∷ []) × D rest (value p)) ↔ IsKeyed key value K D bare_value delimiter (delimiter ∷ rest) p
    keyed_delimiter lacks one v k rest p = (
      λ h. inl ((delimiter_taken key value delimiter K D lacks rest p).0 (rw (only_kept v (key p) h.0) at k, h.1)),
      λ h. (let t = keyed_marked lacks rest p h in (ap (λ x. x ∷ []) (one [] v (key p) k t.0), t.1)),
    )

    pub keyed_none : (b : ℕ) → (b ≡ delimiter → ⊥) → ((rest : List ℕ) (v : V) → K (b ∷ rest) v → ⊥) → (rest : List ℕ) (p : X) → IsKeyed key value K D bare_value delimiter (b ∷ rest) p → ⊥
    keyed_none b ne none rest p (inl h) = word_none key value delimiter K D b ne none rest p h
    keyed_none b ne none rest p (inr h) = none rest (key p) h.0

    -- A byte other than the delimiter begins a key.
    pub keyed_begun : (b : ℕ) → (b ≡ delimiter → ⊥) → (rest : List ℕ) (p : X) → IsKeyed key value K D bare_value delimiter (b ∷ rest) p → (more : List ℕ) × (v : V) × K (b ∷ more) v
    keyed_begun b ne rest p (inl h) = word_begun key value delimiter K D b ne rest p h
    keyed_begun b ne rest p (inr h) = (rest, key p, h.0)

  -- Lines by relations that hold alike.
  pub keyed_as : (K K' : List ℕ → V → Type 0) (D D' : List ℕ → W → Type 0) → ((rest : List ℕ) (v : V) → K rest v ↔ K' rest v) → ((rest : List ℕ) (w : W) → D rest w ↔ D' rest w) →
      (rest : List ℕ) (p : X) → IsKeyed key value K D bare_value delimiter rest p → IsKeyed key value K' D' bare_value delimiter rest p
  keyed_as K K' D D' f g rest p (inl h) = inl ((pair_alike key value delimiter K' K D' D f g rest p).0 h)
  keyed_as K K' D D' f g rest p (inr h) = inr ((f rest (key p)).0 h.0, h.1)

  pub keyed_alike : (K K' : List ℕ → V → Type 0) (D D' : List ℕ → W → Type 0) → ((rest : List ℕ) (v : V) → K rest v ↔ K' rest v) → ((rest : List ℕ) (w : W) → D rest w ↔ D' rest w) →
      (rest : List ℕ) (p : X) → IsKeyed key value K D bare_value delimiter rest p ↔ IsKeyed key value K' D' bare_value delimiter rest p
  keyed_alike K K' D D' f g rest p =
      (keyed_as K K' D D' f g rest p, keyed_as K' K D' D (λ r v. ((f r v).1, (f r v).0)) (λ r w. ((g r w).1, (g r w).0)) rest p)

  module _ (K K' : List ℕ → V → Type 0) (D : List ℕ → W → Type 0) where
    taken_to : (b : ℕ) → (b ≡ delimiter → ⊥) → ((rest : List ℕ) (v : V) → K' rest v ↔ K (b ∷ rest) v) → (rest : List ℕ) (p : X) → IsKeyed key value K' D bare_value delimiter rest p → IsKeyed key value K D bare_value delimiter (b ∷ rest) p
    taken_to b ne f rest p (inl h) = inl ((word_taken key value delimiter K K' D b ne f rest p).0 h)
    taken_to b ne f rest p (inr h) = inr ((f rest (key p)).0 h.0, h.1)

    taken_from : (b : ℕ) → (b ≡ delimiter → ⊥) → ((rest : List ℕ) (v : V) → K' rest v ↔ K (b ∷ rest) v) → (rest : List ℕ) (p : X) → IsKeyed key value K D bare_value delimiter (b ∷ rest) p → IsKeyed key value K' D bare_value delimiter rest p
    taken_from b ne f rest p (inl h) = inl ((word_taken key value delimiter K K' D b ne f rest p).1 h)
    taken_from b ne f rest p (inr h) = inr ((f rest (key p)).1 h.0, h.1)

    -- A byte of the key.
    pub keyed_taken : (b : ℕ) → (b ≡ delimiter → ⊥) → ((rest : List ℕ) (v : V) → K' rest v ↔ K (b ∷ rest) v) → (rest : List ℕ) (p : X) → IsKeyed key value K' D bare_value delimiter rest p ↔ IsKeyed key value K D bare_value delimiter (b ∷ rest) p
    keyed_taken b ne f rest p = (taken_to b ne f rest p, taken_from b ne f rest p)

-- Lines, no key twice.
module _ {V X : Type 0} (key : X → V) (items : List X) (P R : List ℕ → X → Type 0) (end : ℕ) (begun : Bool) where
  -- One more line.
  pub more_line : (text : List ℕ) (p : X) → P text p → AreDistinct (map key items) → LacksValue (key p) (map key items) → AreKeyedAfter key items begun P R end (text ++ end ∷ []) (items ++ p ∷ [])
  more_line text p h d lacks = ((p ∷ [], refl, (text, [], refl, h, (refl, refl))), words_push key items p d lacks)

  module _ (b : ℕ) (K : List ℕ → V → Type 0) (ends : (rest : List ℕ) (p : X) → P (b ∷ rest) p → K [] (key p)) (over : b ≡ end → (p : X) → P [] p → K [] (key p)) where
    first_at : (rest : List ℕ) (p : X) (front back : List ℕ) → b ∷ rest ≡ front ++ end ∷ back → P front p → K [] (key p)
    first_at rest p [] back e h = over (cc) p h
    first_at rest p (x ∷ front) back e h = let s : x ≡ b = cc in ends front p (rw s at h)

    -- The key of a line that the byte ends.
    first_key : (rest : List ℕ) (ps : List X) → AreLinesFrom begun P R end (b ∷ rest) ps → (p : X) × (qs : List X) × (ps ≡ p ∷ qs) × K [] (key p)
    first_key rest [] h = absurd (no_cons b rest h.1)
    first_key rest (p ∷ ps) h = (p, ps, refl, first_at rest p h.0 h.1 h.2 h.3)

    module _ (f : V → Bool) (e : Bool) (is : (v : V) → IsTrue (f v) ↔ K [] v) (ended : IsTrue e ↔ ((v : V) × K [] v)) (one : HasOneText K) where
      -- A byte that ends a key comes only where it is a key and new.
      pub old_refused : IsFalse (e && not (any_value f (map key items))) → (rest : List ℕ) (all : List X) → AreKeyedAfter key items begun P R end (b ∷ rest) all → ⊥
      old_refused none rest all h =
          let k = first_key rest h.0.0 h.0.2 in
          let there = and_split e (any_value f (map key items)) none (ended.1 (key k.0, k.3)) in
          word_twice key f items k.1 k.0 there (λ v t. one [] v (key k.0) ((is v).0 t) k.3) (rw (h.0.1, k.2) at h.1)

      new_at : (n : Bool) → (e && not (any_value f (map key items))) ≡ n → (rest : List ℕ) (all : List X) → AreKeyedAfter key items begun P R end (b ∷ rest) all → IsTrue n
      new_at true q rest all h = refl
      new_at false q rest all h = absurd (old_refused q rest all h)

      pub new_begun : (rest : List ℕ) (all : List X) → AreKeyedAfter key items begun P R end (b ∷ rest) all → IsTrue (e && not (any_value f (map key items)))
      new_begun rest all h = new_at (e && not (any_value f (map key items))) refl rest all h

-- The keys of one pair more, where none is kept.
pub distinct_added : {V X : Type 0} (key : X → V) (items new : List X) (p : X) (kept : List V) → new ≡ items ++ p ∷ [] → kept ≡ [] → AreDistinct (map key items) → LacksValue (key p) (map key items) → AreDistinct (map key new ++ kept)
distinct_added key items new p kept e f d lacks = rw (e, f, append-nil (map key (items ++ p ∷ []))) (words_push key items p d lacks)

-- Where no key stands alone, each has the delimiter and a value.
pub flat_is : {V W X : Type 0} (key : X → V) (value : X → W) (K : List ℕ → V → Type 0) (D : List ℕ → W → Type 0) (delimiter : ℕ) (text : List ℕ) (p : X) → IsKeyed key value K D None delimiter text p ↔ IsPairText key value K D delimiter text p
flat_is key value K D delimiter text p = (elim [ inl h ↦ h | inr h ↦ absurd (none_some (value p) h.1) ], λ h. inl h)

-- Lines by a relation that holds alike.
pub keyed_spells : {V X Y Z : Type 0} {M : Y → List ℕ → Z → Type 0} {y : Y} {R Q : List ℕ → X → Type 0} (key : X → V) (given : List X → Z) (end : ℕ) →
    ((text : List ℕ) (p : X) → R text p ↔ Q text p) → Spells M y (IsMappedText (AreKeyedLines key R end) given) → Spells M y (IsMappedText (AreKeyedLines key Q end) given)
keyed_spells {R = R} {Q = Q} key given end e m = spells_as m (mapped_text_same (AreKeyedLines key R end) (AreKeyedLines key Q end) given
    (λ text ps. (λ h. (lines_as end (λ t p. (e t p).0) text ps h.0, h.1), λ h. (lines_as end (λ t p. (e t p).1) text ps h.0, h.1))))

-- Pairs that are handed out as they are.
pub given_spells : {X Y : Type 0} {M : Y → List ℕ → List X → Type 0} {y : Y} {R : List ℕ → List X → Type 0} → Spells M y (IsMappedText R (λ ps. ps)) → Spells M y R
given_spells {R = R} m = spells_as m (λ text ps. (λ h. rw (sym h.2) h.1, λ h. (ps, h, refl)))
