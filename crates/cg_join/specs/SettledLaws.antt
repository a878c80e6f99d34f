-- How much a token holds where it may end.
use Rattle.std.proofs.Common.{◌≡◌, ℕ, ◌+◌, ◌≤◌, ◌<◌, inl, inr, Bool, true, false, Option, Some, None, List, [], ◌∷◌, ◌++◌, length, refl, sym, ◌∙◌, ap, arith, append-nil, length-append, IsFalse}
use Rattle.cg_text.specs.ListState.{IsListRest}
use Rattle.cg_text.specs.RangesState.{RangesRest, front}
use Rattle.cg_text.specs.Raw.{IsReason}
use Rattle.cg_text.specs.WordState.{IsWordRest}
use Rattle.cg_join.specs.Join.{IsSequence}
use Rattle.cg_join.specs.KeyedState.{AreKeyedAfter, is_begun, is_delimited, kept_keys}
use Rattle.cg_join.specs.Lines.{AreLinesFrom, AreLinesAfter}
use Rattle.cg_join.specs.Maybe.{MaybeRest, maybe_size}
use Rattle.cg_join.specs.Pairs.{AreLedFrom, ArePairsAfter, PairRest, pair_size}
use Rattle.cg_join.specs.PairsState.{IsCompleted, IsLastWord, WordAtHand, before_last, last_size, whole_pairs}
use Rattle.cg_join.specs.PairsStateLaws.{completed_size}
use Rattle.cg_join.specs.Ready.{OrReadyRest}
use Rattle.cg_join.specs.Repeat.{IsList, IsListAfter, items_size}
use Rattle.cg_join.specs.SequenceLaws.{nil_pair}
use Rattle.cg_join.specs.Spelling.{IsMappedText}
use Rattle.cg_join.specs.declared.pairs.Stage.{Stage}
use Rattle.cg_join.specs.declared.pairs.Stage.TheVariants.{Before, InWord, InValue}

pub zero_least : (n : ℕ) → 0 ≤ n
zero_least n = omega arith

-- What has no vector holds no more than anything.
pub none_settled : (n m : ℕ) → n ≡ 0 → n ≤ m
none_settled n m e = omega (arith, e)

pub same_settled : (n m : ℕ) → n ≡ m → n ≤ m
same_settled n m e = omega (arith, e)

both_least : (m n p q : ℕ) → m ≤ p → n ≤ q → m + n ≤ p + q
both_least m n p q h k = omega (arith, h, k)

least_most : (m n p : ℕ) → m ≤ n → n ≤ p → m ≤ p
least_most m n p h k = omega (arith, h, k)

nothing_more : (m n : ℕ) → n ≡ 0 → m + n ≤ m
nothing_more m n e = omega (arith, e)

-- Nothing need follow the second.
pub second_nil : {S T V W : Type 0} (first : S → List ℕ → V → Type 0) (second : T → List ℕ → W → Type 0) (b : Bool) (s : S) (t : T) (v : V) (w : W) → IsSequence first second b s t [] v w → second t [] w
second_nil first second true s t v w h = h.1
second_nil first second false s t v w h = (nil_pair first second s t v w h.front h.back h.whole h.begins h.ends).1

-- Of one token after another.
pub sequence_settled : {S T V W : Type 0} (first : S → List ℕ → V → Type 0) (second : T → List ℕ → W → Type 0) (b : Bool) (s : S) (t : T) (m n : ℕ) (f : V → ℕ) (g : W → ℕ) →
    ((v : V) → first s [] v → m ≤ f v) → ((w : W) → second t [] w → n ≤ g w) → (v : V) (w : W) → IsSequence first second b s t [] v w → m + n ≤ f v + g w
sequence_settled first second true s t m n f g h k v w both = both_least m n (f v) (g w) (h v both.0) (k w both.1)
sequence_settled first second false s t m n f g h k v w pair =
    let both = nil_pair first second s t v w pair.front pair.back pair.whole pair.begins pair.ends in
    both_least m n (f v) (g w) (h v both.0) (k w both.1)

not_after : (b : ℕ) (front back : List ℕ) → [] ≡ front ++ b ∷ back → ⊥
not_after b [] back e = cc
not_after b (x ∷ front) back e = cc

-- No line is begun where nothing need follow, and the values are those before.
lines_over_all : {V : Type 0} (P R : List ℕ → V → Type 0) (end : ℕ) (begun : Bool) (vs : List V) → AreLinesFrom begun P R end [] vs → IsFalse begun × (vs ≡ [])
lines_over_all P R end begun [] h = (h.0, refl)
lines_over_all P R end begun (v ∷ vs) h = absurd (not_after end h.0 h.1 h.2)

-- Of lines, of which a new one holds nothing.
pub lines_settled : {V : Type 0} (P R : List ℕ → V → Type 0) (end : ℕ) (items : List V) (begun : Bool) (f : V → ℕ) (n : ℕ) → (IsFalse begun → n ≡ 0) →
    (all : List V) → AreLinesAfter items begun P R end [] all → items_size f items + n ≤ items_size f all
lines_settled P R end items begun f n fresh all h =
    let over = lines_over_all P R end begun h.0 h.2 in
    let same : all ≡ items = h.1 ∙ ap (λ t. items ++ t) over.1 ∙ append-nil items in
    rw same (nothing_more (items_size f items) n (fresh over.0))

-- Of a word.
pub word_settled : (controller : Bool) (taken word : List ℕ) → IsWordRest controller taken [] word → length taken ≤ length word
word_settled controller taken word h = same_settled (length taken) (length word) (sym (ap length (h.whole ∙ append-nil taken)))

-- Of a reason, which is held with its parenthesis.
pub reason_settled : (taken reason : List ℕ) → IsReason reason (taken ++ []) → length taken ≤ length reason + 1
reason_settled taken reason h = same_settled (length taken) (length reason + 1) (ap length (sym (append-nil taken) ∙ h.0) ∙ length-append reason (41 ∷ []))

some_ranges : (strict : Bool) (most : ℕ) (low : Option ℕ) (P : List ℕ → ℕ → Type 0) (rs : List (ℕ × ℕ)) → RangesRest strict most low P rs [] → 0 < length rs
some_ranges strict most low P [] h = absurd h
some_ranges strict most low P (r ∷ rs) h = omega arith

front_most : {X : Type 0} (xs : List X) → length xs ≤ length (front xs) + 1
front_most [] = omega arith
front_most (x ∷ []) = omega arith
front_most (x ∷ y ∷ xs) = omega (arith, front_most (y ∷ xs))

sum_most : (all items first more : ℕ) → all ≡ first + more → items ≤ first + 1 → 0 < more → items ≤ all
sum_most all items first more e h k = omega (arith, e, h, k)

-- Of a list of ranges in order.
pub ranges_settled : (strict : Bool) (items : List (ℕ × ℕ)) (most : ℕ) (low : Option ℕ) (P : List ℕ → ℕ → Type 0) (all : List (ℕ × ℕ)) → IsListRest strict items most low P [] all → length items ≤ length all
ranges_settled strict items most low P all h = elim h.2 [
  | inl k ↦ sum_most (length all) (length items) (length (front items)) (length h.0) (ap length h.1 ∙ length-append (front items) h.0) (front_most items) (some_ranges strict most low P h.0 k)
  | inr k ↦ none_settled (length items) (length all) k.0
]

-- The places of values and the vectors in them, the last at most so many as g says.
abbrev pub joined_bound : {V : Type 0} → (V → ℕ) → (V → ℕ) → List V → ℕ
joined_bound f g [] = 0
joined_bound f g (v ∷ []) = g v
joined_bound f g (v ∷ w ∷ vs) = 1 + f v + joined_bound f g (w ∷ vs)

joined_last : {V : Type 0} (f g : V → ℕ) (vs : List V) (v : V) → joined_bound f g (vs ++ v ∷ []) ≡ items_size f vs + g v
joined_last f g [] v = omega arith
joined_last f g (w ∷ []) v = omega arith
joined_last f g (w ∷ x ∷ vs) v = omega (arith, joined_last f g (x ∷ vs) v)

last_alone : {V : Type 0} (P R : List ℕ → V → Type 0) (separator : ℕ) (vs : List V) → IsList P R separator [] vs → (v : V) × (vs ≡ v ∷ []) × P [] v
last_alone P R separator [] h = absurd h
last_alone P R separator (v ∷ []) h = (v, refl, h)
last_alone P R separator (v ∷ w ∷ vs) h = absurd (not_after separator h.0 h.1 h.2)

-- Of a list, of which the last value is at hand.
pub list_settled : {V : Type 0} (P R : List ℕ → V → Type 0) (separator : ℕ) (items : List V) (f g : V → ℕ) (n : ℕ) → ((v : V) → P [] v → n ≤ g v) →
    (all : List V) → IsListAfter items P R separator [] all → items_size f items + n ≤ joined_bound f g all
list_settled P R separator items f g n h all k =
    let last = last_alone P R separator k.0 k.2 in
    rw (k.1, last.1, joined_last f g items last.0) (both_least (items_size f items) n (items_size f items) (g last.0) (same_settled (items_size f items) (items_size f items) refl) (h last.0 last.2))

-- Of a token's text or none, of which a new one holds nothing.
pub maybe_settled : {V : Type 0} (begun : Bool) (P : List ℕ → V → Type 0) (n : ℕ) (f : V → ℕ) → (IsFalse begun → n ≡ 0) → ((v : V) → P [] v → n ≤ f v) → (v : Option V) → MaybeRest begun P [] v → n ≤ maybe_size f v
maybe_settled begun P n f fresh h None k = none_settled n 0 (fresh k.0)
maybe_settled begun P n f fresh h (Some v) k = h v k

pub or_ready_settled : {V : Type 0} (begun : Bool) (P : List ℕ → V → Type 0) (value : V) (n : ℕ) (f : V → ℕ) → (IsFalse begun → n ≡ 0) → ((v : V) → P [] v → n ≤ f v) → (v : V) → OrReadyRest begun P value [] v → n ≤ f v
or_ready_settled begun P value n f fresh h v (inl k) = h v k
or_ready_settled begun P value n f fresh h v (inr k) = none_settled n (f v) (fresh k.0)

-- Of lines of a key and what follows it.
pub begun_value : (stage : Stage) → stage ≡ InValue → IsFalse (is_begun stage) → ⊥
begun_value stage e f = let k = rw e at f in cc

pub marked_value : (stage : Stage) → stage ≡ InValue → IsFalse (is_delimited stage) → ⊥
marked_value stage e f = let k = rw e at f in cc

true_false : IsFalse true → ⊥
true_false e = cc

nothing_kept : {V : Type 0} (f : V → ℕ) (kept : List V) → length kept ≡ 0 → items_size f kept ≡ 0
nothing_kept f [] e = refl
nothing_kept f (v ∷ kept) e = absurd (omega (arith, e))

alone_held : (m n k v p : ℕ) → n ≡ 0 → k ≡ 0 → v ≡ 0 → m ≤ p → m + n + (k + v) ≤ p
alone_held m n k v p e f g h = omega (arith, e, f, g, h)

pub keyed_settled : {V X Y : Type 0} (key : X → V) (given : List X → Y) (items : List X) (P R : List ℕ → X → Type 0) (end : ℕ) (stage : Stage) (kept : List V) (f : V → ℕ) (g : Y → ℕ) (m k v : ℕ) →
    length kept ≡ kept_keys (is_delimited stage) → (IsFalse (is_begun stage) → k ≡ 0) → (IsFalse (is_delimited stage) → v ≡ 0) → m ≤ g (given items) →
    (y : Y) → IsMappedText (AreKeyedAfter key items (is_begun stage) P R end) given [] y → m + items_size f kept + (k + v) ≤ g y
keyed_settled key given items P R end Before kept f g m k v none new_key new_value h y t =
    let over = lines_over_all P R end false t.1.0.0 t.1.0.2 in
    let same : t.0 ≡ items = t.1.0.1 ∙ ap (λ x. items ++ x) over.1 ∙ append-nil items in
    let out : given items ≡ y = ap given (sym same) ∙ t.2 in
    rw (← out) (alone_held m (items_size f kept) k v (g (given items)) (nothing_kept f kept none) (new_key refl) (new_value refl) h)
keyed_settled key given items P R end InWord kept f g m k v none new_key new_value h y t = absurd (true_false (lines_over_all P R end true t.1.0.0 t.1.0.2).0)
keyed_settled key given items P R end InValue kept f g m k v none new_key new_value h y t = absurd (true_false (lines_over_all P R end true t.1.0.0 t.1.0.2).0)

-- Of a value that is turned into another.
pub mapped_text_settled : {V W : Type 0} (mapped : V → W) (n : ℕ) (f : V → ℕ) (g : W → ℕ) (v : V) (w : W) → mapped v ≡ w → n ≤ f v → f v ≤ g (mapped v) → n ≤ g w
mapped_text_settled mapped n f g v w e h k = rw (← e) (least_most n (f v) (g (mapped v)) h k)

-- Of pairs, of which neither the word at hand holds anything where no word is taken, nor a value.
led_over : {X : Type 0} (P R : List ℕ → X → Type 0) (separator : ℕ) (ps : List X) → AreLedFrom P R separator [] ps → ps ≡ []
led_over P R separator [] h = refl
led_over P R separator (p ∷ ps) h = absurd (let e = h.1 in cc)

no_last : {X : Type 0} (ps : List X) → last_size (λ _. 0) ps ≡ 0
no_last [] = refl
no_last (p ∷ []) = refl
no_last (p ∷ q ∷ ps) = no_last (q ∷ ps)

none_more : (m n k p : ℕ) → n ≡ 0 → k ≡ 0 → m ≤ p → m + (n + k) ≤ p
none_more m n k p e f h = omega (arith, e, f, h)

pub pairs_settled : {V W X : Type 0} (word : X → V) (value : X → W) (K : List ℕ → V → Type 0) (D : List ℕ → W → Type 0) (R : List ℕ → X → Type 0) (delimiter separator : ℕ) (items : List X)
    (stage : Stage) (f : V → ℕ) (n m : ℕ) → ((stage ≡ InWord → ⊥) → n ≡ 0) → m ≡ 0 → (all : List X) →
    ArePairsAfter word stage (whole_pairs stage items) (PairRest word value (WordAtHand word stage items K) D stage delimiter) R separator [] all →
    items_size (pair_size word value f (λ _. 0)) items + (n + m) ≤ items_size (pair_size word value f (λ _. 0)) all
pairs_settled word value K D R delimiter separator items Before f n m new none all h =
    let over = led_over (PairRest word value K D Before delimiter) R separator h.0.0 h.0.2 in
    let same : all ≡ items = h.0.1 ∙ ap (λ t. items ++ t) over ∙ append-nil items in
    let size = items_size (pair_size word value f (λ _. 0)) items in
    rw same (none_more size n m size (new (λ e. (cc))) none (same_settled size size refl))
pairs_settled word value K D R delimiter separator items InWord f n m new none all h =
    let last = last_alone (PairRest word value K D InWord delimiter) R separator h.0.0 h.0.2 in
    absurd (not_after delimiter last.2.front last.2.back last.2.whole)
pairs_settled word value K D R delimiter separator items InValue f n m new none all h =
    let last = last_alone (PairRest word value (λ rest v. IsLastWord word items v) D InValue delimiter) R separator h.0.0 h.0.2 in
    let done : IsCompleted word value items (value last.0) all = record { pair = last.0; items = h.0.1 ∙ ap (λ t. before_last items ++ t) last.1; has_word = last.2.0; has_value = refl } in
    let size = completed_size word value f (λ _. 0) items all (value last.0) done (no_last items) in
    none_more (items_size (pair_size word value f (λ _. 0)) items) n m (items_size (pair_size word value f (λ _. 0)) all) (new (λ e. (cc))) none (omega (arith, size))
