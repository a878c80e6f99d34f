-- What holds of the rests of a state of keyed lines.
use Rattle.std.proofs.Common.{◌≡◌, ℕ, ◌<◌, ◌↔◌, inl, inr, Bool, true, false, not, ◌&&◌, Option, Some, None, List, [], ◌∷◌, ◌++◌, map, length, Ok, Err, refl, sym, ◌∙◌, ap, append-nil, IsTrue, IsFalse}
use Rattle.std.specs.declared.result.Result.{Result}
use Rattle.cg_text.specs.Token.{AreBytes, HasOneText, IfTaken, IfRefused, UnlessTaken}
use Rattle.cg_join.specs.ByteLaws.{lines_bytes}
use Rattle.cg_join.specs.Distinct.{AreDistinct, LacksValue, any_value}
use Rattle.cg_join.specs.DistinctLaws.{with_distinct}
use Rattle.cg_join.specs.Keyed.{AreKeyedLines, IsKeyed}
use Rattle.cg_join.specs.KeyedLaws.{and_both, distinct_first, distinct_last, keyed_alike, keyed_begun, keyed_bytes, keyed_empty, keyed_lacks, keyed_delimiter, keyed_marked, keyed_none, keyed_one}
use Rattle.cg_join.specs.KeyedLaws.{keyed_taken, more_line, new_begun, none_some, old_refused, one_kept, only_kept, mapped_text_begins, mapped_text_none, mapped_text_same, mapped_text_taken}
use Rattle.cg_join.specs.KeyedState.{AreKeyedAfter, KeyedRest, kept_keys}
use Rattle.cg_join.specs.Line.{LacksByte}
use Rattle.cg_join.specs.LinesLaws.{lines_after_one, lines_begins, lines_ends, lines_new, lines_next, lines_none, lines_over, lines_same, lines_taken}
use Rattle.cg_join.specs.PairsLaws.{new_word, paired_rest, same_pair}
use Rattle.cg_join.specs.Spelling.{IsMappedText}

module _ {V W X : Type 0} (key : X → V) (value : X → W) where
  -- The rests of the line at hand.
  module _ (K : List ℕ → V → Type 0) (D : List ℕ → W → Type 0) (bare_value : Option W) (delimiter : ℕ) (kept : List V) where
    pub state_lacks : (end : ℕ) → (delimiter ≡ end → ⊥) → LacksByte K end → LacksByte D end → (marked : Bool) → LacksByte (KeyedRest key value K D bare_value delimiter marked kept) end
    state_lacks end ne k d false = keyed_lacks key value bare_value delimiter K D end ne k d
    state_lacks end ne k d true = λ front more p h. d front more (value p) h.1

    pub rest_one : (paired : V → W → X) → ((p : X) → paired (key p) (value p) ≡ p) → LacksByte K delimiter → HasOneText K → HasOneText D → (marked : Bool) → HasOneText (KeyedRest key value K D bare_value delimiter marked kept)
    rest_one paired whole lacks one two false = keyed_one key value bare_value delimiter K D paired whole lacks one two
    rest_one paired whole lacks one two true = λ text p q h k. same_pair key value K delimiter paired whole p q (only_kept (key p) (key q) (sym h.0 ∙ k.0)) (two text (value p) (value q) h.1 k.1)

    pub rest_bytes : delimiter < 256 → ((text : List ℕ) (v : V) → K text v → AreBytes text) → ((text : List ℕ) (w : W) → D text w → AreBytes text) → (marked : Bool) →
        (text : List ℕ) (p : X) → KeyedRest key value K D bare_value delimiter marked kept text p → AreBytes text
    rest_bytes small f g false = keyed_bytes key value bare_value delimiter K D small f g
    rest_bytes small f g true = λ text p h. g text (value p) h.1

-- The rests of a state.
module _ {V W X Y : Type 0} (key : X → V) (value : X → W) where
  module _ (paired : V → W → X) (has_key : (v : V) (w : W) → key (paired v w) ≡ v) (has_value : (v : V) (w : W) → value (paired v w) ≡ w) (given : List X → Y) (items : List X) (R : List ℕ → X → Type 0)
      (K : List ℕ → V → Type 0) (D : List ℕ → W → Type 0) (bare_value : Option W) (delimiter end : ℕ) (begun : Bool) (kept : List V) (d : AreDistinct (map key items ++ kept)) where
    pub state_completes : (marked : Bool) → length kept ≡ kept_keys marked → ((rest : List ℕ) × (v : V) × K rest v × LacksValue v (map key items)) → ((rest : List ℕ) × (w : W) × D rest w) →
        (rest : List ℕ) × (y : Y) × IsMappedText (AreKeyedAfter key items begun (KeyedRest key value K D bare_value delimiter marked kept) R end) given rest y
    state_completes false e k c =
        let p = paired k.1 c.1 in
        let text = k.0 ++ delimiter ∷ c.0 in
        let h : IsKeyed key value K D bare_value delimiter text p = inl (paired_rest key value paired has_key has_value K D delimiter k.0 c.0 k.1 c.1 k.2 c.2) in
        let line = more_line key items (IsKeyed key value K D bare_value delimiter) R end begun text p h (distinct_first (map key items) kept d) (rw (has_key k.1 c.1) k.3) in
        (text ++ end ∷ [], given (items ++ p ∷ []), (items ++ p ∷ [], line, refl))
    state_completes true e k c =
        let o = one_kept kept e in
        let p = paired o.0 c.1 in
        let h : (kept ≡ key p ∷ []) × D c.0 (value p) = (o.1 ∙ ap (λ x. x ∷ []) (sym (has_key o.0 c.1)), rw (has_value o.0 c.1) c.2) in
        let line = more_line key items (KeyedRest key value K D bare_value delimiter true kept) R end begun c.0 p h (distinct_first (map key items) kept d)
        (rw (has_key o.0 c.1) (distinct_last (map key items) o.0 (rw o.1 at d))) in
        (c.0 ++ end ∷ [], given (items ++ p ∷ []), (items ++ p ∷ [], line, refl))

  module _ (given : List X → Y) (items : List X) (K : List ℕ → V → Type 0) (D : List ℕ → W → Type 0) (T : List ℕ → V → Type 0) (U : List ℕ → W → Type 0) (bare_value : Option W) (delimiter end : ℕ) (begun : Bool) (kept : List V) where
    pub state_one : (paired : V → W → X) → ((p : X) → paired (key p) (value p) ≡ p) → (delimiter ≡ end → ⊥) → LacksByte K delimiter → LacksByte K end → LacksByte T delimiter → LacksByte T end → LacksByte D end → LacksByte U end →
        HasOneText K → HasOneText D → HasOneText T → HasOneText U → (marked : Bool) →
        HasOneText (IsMappedText (AreKeyedAfter key items begun (KeyedRest key value K D bare_value delimiter marked kept) (IsKeyed key value T U bare_value delimiter) end) given)
    state_one paired whole ne km ke tm te de ue one_k one_d one_t one_u marked text v w h k =
        sym h.2
        ∙ ap given (lines_after_one end (KeyedRest key value K D bare_value delimiter marked kept) (IsKeyed key value T U bare_value delimiter) items begun
        (state_lacks key value K D bare_value delimiter kept end ne ke de marked) (keyed_lacks key value bare_value delimiter T U end ne te ue)
        (rest_one key value K D bare_value delimiter kept paired whole km one_k one_d marked) (keyed_one key value bare_value delimiter T U paired whole tm one_t one_u) text h.0 k.0 h.1.0 k.1.0)
        ∙ k.2

    pub state_bytes : delimiter < 256 → end < 256 → ((text : List ℕ) (v : V) → K text v → AreBytes text) →
        ((text : List ℕ) (w : W) → D text w → AreBytes text) →
        ((text : List ℕ) (v : V) → T text v → AreBytes text) →
        ((text : List ℕ) (w : W) → U text w → AreBytes text) →
        (marked : Bool) (text : List ℕ) (y : Y) → IsMappedText (AreKeyedAfter key items begun (KeyedRest key value K D bare_value delimiter marked kept) (IsKeyed key value T U bare_value delimiter) end) given text y → AreBytes text
    state_bytes small small_end f g i j marked text y h =
        lines_bytes (KeyedRest key value K D bare_value delimiter marked kept)
        (IsKeyed key value T U bare_value delimiter) end small_end
        (rest_bytes key value K D bare_value delimiter kept small f g marked)
        (keyed_bytes key value bare_value delimiter T U small i j) begun text h.1.0.0 h.1.0.2

pub state_ends : {V X Y : Type 0} (key : X → V) (given : List X → Y) (items : List X) (P R : List ℕ → X → Type 0) (end : ℕ) (kept : List V) → AreDistinct (map key items ++ kept) → (begun : Bool) →
    IsTrue (not begun) ↔ ((y : Y) × IsMappedText (AreKeyedAfter key items begun P R end) given [] y)
state_ends key given items P R end kept d true = (λ h. absurd (cc), λ h. (lines_ends end P R items true).1 (h.1.0, h.1.1.0))
state_ends key given items P R end kept d false = (
  λ h. (given (items ++ []), (items ++ [], (([], refl, (refl, refl)), rw (append-nil items) (distinct_first (map key items) kept d)), refl)),
  λ h. refl,
)

-- The steps, where no key is ended.
module _ {V W X Y : Type 0} (key : X → V) (value : X → W) (given : List X → Y) (items : List X) (R : List ℕ → X → Type 0) (K : List ℕ → V → Type 0) (D : List ℕ → W → Type 0) (bare_value : Option W) (delimiter end : ℕ) (begun : Bool) where
  abbrev KeyLine : List ℕ → X → Type 0
  KeyLine = IsKeyed key value K D bare_value delimiter

  abbrev KeyRest : List ℕ → Y → Type 0
  KeyRest = IsMappedText (AreKeyedAfter key items begun KeyLine R end) given

  -- A byte of a key.
  pub key_taken : (K' : List ℕ → V → Type 0) (b : ℕ) → (b ≡ delimiter → ⊥) → (b ≡ end → ⊥) → ((rest : List ℕ) (v : V) → K' rest v ↔ K (b ∷ rest) v) → (rest : List ℕ) (y : Y) →
      IsMappedText (AreKeyedAfter key items true (IsKeyed key value K' D bare_value delimiter) R end) given rest y ↔ KeyRest (b ∷ rest) y
  key_taken K' b ne ne' f =
      let Line' : List ℕ → X → Type 0 = IsKeyed key value K' D bare_value delimiter in
      mapped_text_taken (AreKeyedAfter key items true Line' R end) (AreKeyedAfter key items begun KeyLine R end) given b
      (λ rest all. with_distinct (lines_taken end KeyLine Line' R b ne' (keyed_taken key value bare_value delimiter K K' D b ne f) begun items rest all))

  pub key_refused : (b : ℕ) → (b ≡ delimiter → ⊥) → (b ≡ end → ⊥) → ((rest : List ℕ) (v : V) → K (b ∷ rest) v → ⊥) → (rest : List ℕ) (y : Y) → KeyRest (b ∷ rest) y → ⊥
  key_refused b ne ne' none = mapped_text_none (AreKeyedAfter key items begun KeyLine R end) given b
      (λ rest all h. lines_none end KeyLine R b (keyed_none key value bare_value delimiter K D b ne none) (λ e. absurd (ne' e)) begun items rest all h.0)

  pub key_same : (K' : List ℕ → V → Type 0) → ((rest : List ℕ) (v : V) → K' rest v ↔ K rest v) → (rest : List ℕ) (y : Y) →
      IsMappedText (AreKeyedAfter key items begun (IsKeyed key value K' D bare_value delimiter) R end) given rest y ↔ KeyRest rest y
  key_same K' f =
      let Line' : List ℕ → X → Type 0 = IsKeyed key value K' D bare_value delimiter in
      mapped_text_same (AreKeyedAfter key items begun Line' R end) (AreKeyedAfter key items begun KeyLine R end) given
      (λ rest all. with_distinct (lines_same end KeyLine Line' R (keyed_alike key value bare_value delimiter K' K D D f (λ t w. (λ h. h, λ h. h))) begun items rest all))

  -- The delimiter, after a key that is new.
  pub delimiter_step : LacksByte K delimiter → (delimiter ≡ end → ⊥) → HasOneText K → (v : V) → K [] v → (kept : List V) → kept ≡ v ∷ [] → (K' : List ℕ → V → Type 0) → (rest : List ℕ) (y : Y) →
      IsMappedText (AreKeyedAfter key items true (KeyedRest key value K' D bare_value delimiter true kept) R end) given rest y ↔ KeyRest (delimiter ∷ rest) y
  delimiter_step lacks ne one v k kept e K' =
      let Line' : List ℕ → X → Type 0 = KeyedRest key value K' D bare_value delimiter true kept in
      mapped_text_taken (AreKeyedAfter key items true Line' R end) (AreKeyedAfter key items begun KeyLine R end) given delimiter
      (λ rest all. with_distinct (lines_taken end KeyLine Line' R delimiter ne (rw e (keyed_delimiter key value bare_value delimiter K D lacks one v k)) begun items rest all))

  module _ (f : V → Bool) (e : Bool) (is : (v : V) → IsTrue (f v) ↔ K [] v) (ended : IsTrue e ↔ ((v : V) × K [] v)) (one : HasOneText K) where
    -- The delimiter, where there is no key or it is there already.
    pub delimiter_refused : LacksByte K delimiter → (delimiter ≡ end → ⊥) → IsFalse (e && not (any_value f (map key items))) → (rest : List ℕ) (y : Y) → KeyRest (delimiter ∷ rest) y → ⊥
    delimiter_refused lacks ne none = mapped_text_none (AreKeyedAfter key items begun KeyLine R end) given delimiter
        (old_refused key items KeyLine R end begun delimiter K (λ rest p h. (keyed_marked key value bare_value delimiter K D lacks rest p h).0) (λ q. absurd (ne q)) f e is ended one none)

    -- The end, where there is no key or it is there already.
    pub end_refused : LacksByte KeyLine end → IsFalse (e && not (any_value f (map key items))) → (rest : List ℕ) (y : Y) → KeyRest (end ∷ rest) y → ⊥
    end_refused lacks none = mapped_text_none (AreKeyedAfter key items begun KeyLine R end) given end
        (old_refused key items KeyLine R end begun end K (λ rest p h. absurd (lacks [] rest p h)) (λ _ p h. (keyed_empty key value bare_value delimiter K D p h).0) f e is ended one none)

    module _ (paired : V → W → X) (has_key : (v : V) (w : W) → key (paired v w) ≡ v) (has_value : (v : V) (w : W) → value (paired v w) ≡ w) (d : AreDistinct (map key items)) where
      new_key : IsTrue (e && not (any_value f (map key items))) → (v : V) × K [] v × LacksValue v (map key items)
      new_key h = let b = and_both e (any_value f (map key items)) h in new_word K f is (map key items) b.1 (ended.0 b.0)

      marked_line : LacksByte K delimiter → ((rest : List ℕ) × (w : W) × D rest w) → IsTrue (e && not (any_value f (map key items))) →
          (rest : List ℕ) × (all : List X) × AreKeyedAfter key items begun KeyLine R end (delimiter ∷ rest) all
      marked_line lacks c h =
          let k = new_key h in
          let p = paired k.0 c.1 in
          let line : KeyLine (delimiter ∷ c.0) p = inl (paired_rest key value paired has_key has_value K D delimiter [] c.0 k.0 c.1 k.1 c.2) in
          (c.0 ++ end ∷ [], items ++ p ∷ [], more_line key items KeyLine R end begun (delimiter ∷ c.0) p line d (rw (has_key k.0 c.1) k.2))

      pub delimiter_begins : LacksByte K delimiter → (delimiter ≡ end → ⊥) → ((rest : List ℕ) × (w : W) × D rest w) → IsTrue (e && not (any_value f (map key items))) ↔ ((rest : List ℕ) × (y : Y) × KeyRest (delimiter ∷ rest) y)
      delimiter_begins lacks ne c = mapped_text_begins (AreKeyedAfter key items begun KeyLine R end) given delimiter (e && not (any_value f (map key items))) (
        marked_line lacks c,
        λ h. new_begun key items KeyLine R end begun delimiter K (λ rest p k. (keyed_marked key value bare_value delimiter K D lacks rest p k).0) (λ q. absurd (ne q)) f e is ended one h.0 h.1 h.2,
      )

      lone_line : (w : W) → bare_value ≡ Some w → IsTrue (e && not (any_value f (map key items))) → (rest : List ℕ) × (all : List X) × AreKeyedAfter key items begun KeyLine R end (end ∷ rest) all
      lone_line w a h =
          let k = new_key h in
          let p = paired k.0 w in
          let line : KeyLine [] p = inr (rw (has_key k.0 w) k.1, a ∙ ap Some (sym (has_value k.0 w))) in
          ([], items ++ p ∷ [], more_line key items KeyLine R end begun [] p line d (rw (has_key k.0 w) k.2))

      pub end_begins : LacksByte KeyLine end → (w : W) → bare_value ≡ Some w → IsTrue (e && not (any_value f (map key items))) ↔ ((rest : List ℕ) × (y : Y) × KeyRest (end ∷ rest) y)
      end_begins lacks w a = mapped_text_begins (AreKeyedAfter key items begun KeyLine R end) given end (e && not (any_value f (map key items))) (
        lone_line w a,
        λ h. new_begun key items KeyLine R end begun end K (λ rest p k. absurd (lacks [] rest p k)) (λ _ p k. (keyed_empty key value bare_value delimiter K D p k).0) f e is ended one h.0 h.1 h.2,
      )

  -- The end, where no key stands alone.
  pub none_refused : LacksByte KeyLine end → bare_value ≡ None → (rest : List ℕ) (y : Y) → KeyRest (end ∷ rest) y → ⊥
  none_refused lacks a = mapped_text_none (AreKeyedAfter key items begun KeyLine R end) given end
      (λ rest all h. lines_none end KeyLine R end (λ t p k. lacks [] t p k) (λ _ p k. none_some (value p) (sym a ∙ (keyed_empty key value bare_value delimiter K D p k).1)) begun items rest all h.0)

  -- The end, after a key that stands alone.
  pub end_step : LacksByte KeyLine end → HasOneText KeyLine → (p : X) → K [] (key p) → bare_value ≡ Some (value p) →
      (new : List X) → new ≡ items ++ p ∷ [] → (F : List ℕ → X → Type 0) →
      ((rest : List ℕ) (q : X) → F rest q ↔ R rest q) → (rest : List ℕ) (y : Y) →
      IsMappedText (AreKeyedAfter key new false F R end) given rest y ↔ KeyRest (end ∷ rest) y
  end_step lacks one p k a new e F f = rw e (mapped_text_taken (AreKeyedAfter key (items ++ p ∷ []) false F R end) (AreKeyedAfter key items begun KeyLine R end) given end
      (λ rest all. with_distinct (lines_next end KeyLine F R p (inr (k, a)) one lacks f begun items rest all)))

  key_line : (paired : V → W → X) → ((v : V) (w : W) → key (paired v w) ≡ v) → ((v : V) (w : W) → value (paired v w) ≡ w) → AreDistinct (map key items) → ((rest : List ℕ) × (w : W) × D rest w) → (b : ℕ) →
      ((rest : List ℕ) × (v : V) × K (b ∷ rest) v × LacksValue v (map key items)) → (rest : List ℕ) × (y : Y) × KeyRest (b ∷ rest) y
  key_line paired has_key has_value d c b k =
      let p = paired k.1 c.1 in
      let text = k.0 ++ delimiter ∷ c.0 in
      let line : KeyLine (b ∷ text) p = inl (paired_rest key value paired has_key has_value K D delimiter (b ∷ k.0) c.0 k.1 c.1 k.2 c.2) in
      (text ++ end ∷ [], given (items ++ p ∷ []), (items ++ p ∷ [], more_line key items KeyLine R end begun (b ∷ text) p line d (rw (has_key k.1 c.1) k.3), refl))

  -- A byte of a key.
  pub key_begins : (paired : V → W → X) → ((v : V) (w : W) → key (paired v w) ≡ v) →
      ((v : V) (w : W) → value (paired v w) ≡ w) → AreDistinct (map key items) →
      ((rest : List ℕ) × (w : W) × D rest w) → (b : ℕ) → (b ≡ delimiter → ⊥) → (b ≡ end → ⊥) →
      (((more : List ℕ) × (v : V) × K (b ∷ more) v) → (rest : List ℕ) × (v : V) × K (b ∷ rest) v × LacksValue v (map key items)) →
      ((more : List ℕ) × (v : V) × K (b ∷ more) v) ↔ ((rest : List ℕ) × (y : Y) × KeyRest (b ∷ rest) y)
  key_begins paired has_key has_value d c b ne ne' longer = (
    λ h. key_line paired has_key has_value d c b (longer h),
    λ h. (let t = (lines_begins end KeyLine R items begun b ne').1 (h.0, h.2.0, h.2.1.0) in keyed_begun key value bare_value delimiter K D b ne t.0 t.1 t.2),
  )

-- The steps, where the key is ended.
module _ {V W X Y : Type 0} (key : X → V) (value : X → W) (given : List X → Y) (items : List X) (R : List ℕ → X →
    Type 0) (K : List ℕ → V → Type 0) (D : List ℕ → W →
    Type 0) (bare_value : Option W) (delimiter end : ℕ) (begun : Bool) (kept : List V) where
  abbrev ValueLine : List ℕ → X → Type 0
  ValueLine = KeyedRest key value K D bare_value delimiter true kept

  abbrev ValueRest : List ℕ → Y → Type 0
  ValueRest = IsMappedText (AreKeyedAfter key items begun ValueLine R end) given

  rest_as : (D' : List ℕ → W → Type 0) (rest more : List ℕ) → ((w : W) → D' rest w ↔ D more w) → (p : X) → KeyedRest key value K D' bare_value delimiter true kept rest p ↔ ValueLine more p
  rest_as D' rest more f p = (λ h. (h.0, (f (value p)).0 h.1), λ h. (h.0, (f (value p)).1 h.1))

  -- A byte of a value.
  pub value_taken : {E : Type 0} (r : Result Bool E) (D' : List ℕ → W → Type 0) (b : ℕ) → (b ≡ end → ⊥) → IfTaken r ((rest : List ℕ) (w : W) → D' rest w ↔ D (b ∷ rest) w) →
      IfTaken r ((rest : List ℕ) (y : Y) → IsMappedText (AreKeyedAfter key items true (KeyedRest key value K D' bare_value delimiter true kept) R end) given rest y ↔ ValueRest (b ∷ rest) y)
  value_taken (Ok true) D' b ne f =
      let Line' : List ℕ → X → Type 0 = KeyedRest key value K D' bare_value delimiter true kept in
      mapped_text_taken (AreKeyedAfter key items true Line' R end) (AreKeyedAfter key items begun ValueLine R end) given b
      (λ rest all. with_distinct (lines_taken end ValueLine Line' R b ne (λ t p. rest_as D' t (b ∷ t) (f t) p) begun items rest all))
  value_taken (Ok false) D' b ne f = tt
  value_taken (Err e) D' b ne f = tt

  pub value_refused : {E : Type 0} (r : Result Bool E) (b : ℕ) → (b ≡ end → ⊥) → IfRefused r ((rest : List ℕ) (w : W) → D (b ∷ rest) w → ⊥) → IfRefused r ((rest : List ℕ) (y : Y) → ValueRest (b ∷ rest) y → ⊥)
  value_refused (Ok true) b ne f = tt
  value_refused (Ok false) b ne f = mapped_text_none (AreKeyedAfter key items begun ValueLine R end) given b
      (λ rest all h. lines_none end ValueLine R b (λ t p k. f t (value p) k.1) (λ e. absurd (ne e)) begun items rest all h.0)
  value_refused (Err e) b ne f = tt

  same_value : (D' : List ℕ → W → Type 0) → ((rest : List ℕ) (w : W) → D' rest w ↔ D rest w) →
      (rest : List ℕ) (y : Y) → IsMappedText
      (AreKeyedAfter key items begun (KeyedRest key value K D' bare_value delimiter true kept) R end) given rest y ↔
      ValueRest rest y
  same_value D' f =
      let Line' : List ℕ → X → Type 0 = KeyedRest key value K D' bare_value delimiter true kept in
      mapped_text_same (AreKeyedAfter key items begun Line' R end) (AreKeyedAfter key items begun ValueLine R end) given
      (λ rest all. with_distinct (lines_same end ValueLine Line' R (λ t p. rest_as D' t t (f t) p) begun items rest all))

  pub value_same : {E : Type 0} (r : Result Bool E) (D' : List ℕ → W → Type 0) → UnlessTaken r ((rest : List ℕ) (w : W) → D' rest w ↔ D rest w) →
      UnlessTaken r ((rest : List ℕ) (y : Y) → IsMappedText (AreKeyedAfter key items begun (KeyedRest key value K D' bare_value delimiter true kept) R end) given rest y ↔ ValueRest rest y)
  value_same (Ok true) D' f = tt
  value_same (Ok false) D' f = same_value D' f
  value_same (Err e) D' f = same_value D' f

  -- The end, where the value can't end.
  pub over_refused : LacksByte D end → ((w : W) → D [] w → ⊥) → (rest : List ℕ) (y : Y) → ValueRest (end ∷ rest) y → ⊥
  over_refused lacks none = mapped_text_none (AreKeyedAfter key items begun ValueLine R end) given end
      (λ rest all h. lines_none end ValueLine R end (λ t p k. lacks [] t (value p) k.1) (λ _ p k. none (value p) k.1) begun items rest all h.0)

  -- The end, after a value.
  pub value_step : LacksByte D end → HasOneText ValueLine → (p : X) → kept ≡ key p ∷ [] → D [] (value p) →
      (new : List X) → new ≡ items ++ p ∷ [] → (F : List ℕ → X → Type 0) →
      ((rest : List ℕ) (q : X) → F rest q ↔ R rest q) → (rest : List ℕ) (y : Y) →
      IsMappedText (AreKeyedAfter key new false F R end) given rest y ↔ ValueRest (end ∷ rest) y
  value_step lacks one p k w new e F f = rw e (mapped_text_taken (AreKeyedAfter key (items ++ p ∷ []) false F R end) (AreKeyedAfter key items begun ValueLine R end) given end
      (λ rest all. with_distinct (lines_next end ValueLine F R p (k, w) one (λ front more q h. lacks front more (value q) h.1) f begun items rest all)))

  module _ (paired : V → W → X) (has_key : (v : V) (w : W) → key (paired v w) ≡ v) (has_value : (v : V) (w : W) → value (paired v w) ≡ w) (d : AreDistinct (map key items ++ kept)) (some : length kept ≡ 1) where
    value_line : (text : List ℕ) (w : W) → D text w → (all : List X) × AreKeyedAfter key items begun ValueLine R end (text ++ end ∷ []) all
    value_line text w h =
        let o = one_kept kept some in
        let p = paired o.0 w in
        let line : ValueLine text p = (o.1 ∙ ap (λ x. x ∷ []) (sym (has_key o.0 w)), rw (has_value o.0 w) h) in
        (items ++ p ∷ [], more_line key items ValueLine R end begun text p line (distinct_first (map key items) kept d) (rw (has_key o.0 w) (distinct_last (map key items) o.0 (rw o.1 at d))))

    -- The end, after a value.
    pub over_begins : LacksByte D end → ((w : W) × D [] w) ↔ ((rest : List ℕ) × (y : Y) × ValueRest (end ∷ rest) y)
    over_begins lacks = (
      λ h. (let t = value_line [] h.0 h.1 in ([], given t.0, (t.0, t.1, refl))),
      λ h. (let t = (lines_over end ValueLine R items begun (λ front more q k. lacks front more (value q) k.1)).1 (h.0, h.2.0, h.2.1.0) in (value t.0, t.1.1)),
    )

    -- A byte of a value.
    pub value_begins : (b : ℕ) → (b ≡ end → ⊥) → ((more : List ℕ) × (w : W) × D (b ∷ more) w) ↔ ((rest : List ℕ) × (y : Y) × ValueRest (b ∷ rest) y)
    value_begins b ne = (
      λ h. (let t = value_line (b ∷ h.0) h.1 h.2 in (h.0 ++ end ∷ [], given t.0, (t.0, t.1, refl))),
      λ h. (let t = (lines_begins end ValueLine R items begun b ne).1 (h.0, h.2.0, h.2.1.0) in (t.0, value t.1, t.2.1)),
    )

-- A new state.
pub keyed_new : {V X Y : Type 0} (key : X → V) (given : List X → Y) (items : List X) → items ≡ [] → (F R : List ℕ → X → Type 0) (end : ℕ) → ((rest : List ℕ) (p : X) → F rest p ↔ R rest p) → (rest : List ℕ) (y : Y) →
    IsMappedText (AreKeyedAfter key items false F R end) given rest y ↔ IsMappedText (AreKeyedLines key R end) given rest y
keyed_new key given items e F R end f = rw e (mapped_text_same (AreKeyedAfter key [] false F R end) (AreKeyedLines key R end) given (λ rest all. with_distinct (lines_new end F R f rest all)))
