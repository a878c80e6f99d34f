-- What holds of repetitions, pairs and keyed lines of which the part at hand takes a run of bytes.
use Rattle.std.proofs.Common.{◌≡◌, ℕ, ◌<◌, ◌↔◌, Bool, true, false, Option, List, [], ◌∷◌, ◌++◌, length, Ok, append_assoc, append-nil}
use Rattle.cg_text.specs.Token.{HasOneText}
use Rattle.cg_join.specs.Distinct.{IsDistinctAfter}
use Rattle.cg_join.specs.DistinctLaws.{with_distinct}
use Rattle.cg_join.specs.Keyed.{IsKeyed}
use Rattle.cg_join.specs.KeyedState.{AreKeyedAfter, KeyedRest}
use Rattle.cg_join.specs.KeyedStateLaws.{key_same, key_taken, value_same, value_taken}
use Rattle.cg_join.specs.Line.{LacksByte}
use Rattle.cg_join.specs.LinesLaws.{lacks_taken}
use Rattle.cg_join.specs.Pairs.{ArePairsAfter, IsPairText, PairRest}
use Rattle.cg_join.specs.PairsLaws.{paired_ended, paired_rest, value_step, value_step_same, word_step_same, word_step_taken}
use Rattle.cg_join.specs.Repeat.{IsListAfter, Stops}
use Rattle.cg_join.specs.RepeatLaws.{list_next, list_same, list_taken, stops_taken}
use Rattle.cg_join.specs.RunLaws.{begun_run, part_run}
use Rattle.cg_join.specs.Spelling.{IsMappedText}
use Rattle.cg_join.specs.declared.pairs.Stage.TheVariants.{InWord, InValue}

-- Repetitions.
module _ {V : Type 0} (separator : ℕ) (R : List ℕ → V → Type 0) (items : List V) where
  abbrev Fits : (List ℕ → V → Type 0) → Type 0
  Fits P = Stops P separator

  fits : (P : List ℕ → V → Type 0) (b : ℕ) → Fits P → Fits (λ rest v. P (b ∷ rest) v)
  fits P b stops = stops_taken separator P (λ rest v. P (b ∷ rest) v) b (λ r v. (λ h. h, λ h. h)) stops

  pub list_run : (P P' : List ℕ → V → Type 0) (run : List ℕ) → Stops P separator → ((rest : List ℕ) × (v : V) × P' rest v) → ((rest : List ℕ) (v : V) → P' rest v ↔ P (run ++ rest) v) →
      (rest : List ℕ) (all : List V) → IsListAfter items P' R separator rest all ↔ IsListAfter items P R separator (run ++ rest) all
  list_run = part_run (λ P rest all. IsListAfter items P R separator rest all) Fits fits (λ P P' f. list_same separator P P' R f items)
      (λ P P' b stops c f. list_taken separator P P' R b stops c f items)

  -- A text of the part at hand, and the separator after it, are taken.
  pub list_whole : (P F : List ℕ → V → Type 0) → ((rest : List ℕ) (v : V) → F rest v ↔ R rest v) → Stops P separator → HasOneText P → (text : List ℕ) (v : V) → P text v →
      (rest : List ℕ) (all : List V) → IsListAfter (items ++ v ∷ []) F R separator rest all ↔ IsListAfter items P R separator ((text ++ separator ∷ []) ++ rest) all
  list_whole P F f stops one text v h rest all =
      let P' : List ℕ → V → Type 0 = λ r u. P (text ++ r) u in
      let ended : P' [] v = rw (append-nil text) h in
      let next = list_next separator P' F R v ended (λ r u w. one (text ++ r) u w) (λ r u. stops text r v u h) f items rest all in
      let part = list_run P P' text stops ([], v, ended) (λ r u. (λ k. k, λ k. k)) (separator ∷ rest) all in
      rw (append_assoc text (separator ∷ []) rest) (λ k. part.0 (next.0 k), λ k. next.1 (part.1 k))

  pub distinct_run : (P P' : List ℕ → V → Type 0) (run : List ℕ) → Stops P separator → ((rest : List ℕ) × (v : V) × P' rest v) → ((rest : List ℕ) (v : V) → P' rest v ↔ P (run ++ rest) v) →
      (rest : List ℕ) (all : List V) → IsDistinctAfter items P' R separator rest all ↔ IsDistinctAfter items P R separator (run ++ rest) all
  distinct_run P P' run stops c f rest all = with_distinct (list_run P P' run stops c f rest all)

-- What is left after a run goes on with no separator.
pub stops_run : {V : Type 0} (separator : ℕ) (P P' : List ℕ → V → Type 0) (run : List ℕ) → ((rest : List ℕ) (v : V) → P' rest v ↔ P (run ++ rest) v) → Stops P separator → Stops P' separator
stops_run separator P P' run f stops front more v u h k =
    stops (run ++ front) more v u ((f front v).0 h) (rw (append_assoc run front (separator ∷ more)) ((f (front ++ separator ∷ more) u).0 k))

-- Pairs.
module _ {V W X : Type 0} (word : X → V) (value : X → W) (paired : V → W → X) (has_word : (v : V) (w : W) → word (paired v w) ≡ v) (has_value : (v : V) (w : W) → value (paired v w) ≡ w)
    (delimiter separator : ℕ) (items : List X) (R : List ℕ → X → Type 0) where
  pub word_run : (D : List ℕ → W → Type 0) → Stops D separator → ((rest : List ℕ) × (w : W) × D rest w) → (K K' : List ℕ → V → Type 0) (run : List ℕ) → LacksByte K delimiter → ((rest : List ℕ) × (v : V) × K' rest v) →
      ((rest : List ℕ) (v : V) → K' rest v ↔ K (run ++ rest) v) → (rest : List ℕ) (all : List X) →
      ArePairsAfter word InWord items (IsPairText word value K' D delimiter) R separator rest all ↔ ArePairsAfter word InWord items (IsPairText word value K D delimiter) R separator (run ++ rest) all
  word_run D stops d = part_run (λ K rest all. ArePairsAfter word InWord items (IsPairText word value K D delimiter) R separator rest all) (λ K. LacksByte K delimiter)
      (λ K b lacks. lacks_taken delimiter K (λ r v. K (b ∷ r) v) b (λ r v. (λ h. h, λ h. h)) lacks)
      (λ K K' f. word_step_same word value delimiter separator items R K D {E = ℕ} (Ok false) K' f)
      (λ K K' b lacks k f. word_step_taken word value delimiter separator items R K D {E = ℕ} (Ok true) K' b (λ e. lacks [] k.0 k.1 (rw e at ((f k.0 k.1).0 k.2))) lacks stops
      (k.0 ++ delimiter ∷ d.0, paired k.1 d.1, paired_rest word value paired has_word has_value K' D delimiter k.0 d.0 k.1 d.1 k.2 d.2) f)

  pub value_run : (K : List ℕ → V → Type 0) → ((v : V) × K [] v) → (D D' : List ℕ → W → Type 0) (run : List ℕ) → Stops D separator → ((rest : List ℕ) × (w : W) × D' rest w) →
      ((rest : List ℕ) (w : W) → D' rest w ↔ D (run ++ rest) w) → (rest : List ℕ) (all : List X) →
      ArePairsAfter word InValue items (PairRest word value K D' InValue delimiter) R separator rest all ↔ ArePairsAfter word InValue items (PairRest word value K D InValue delimiter) R separator (run ++ rest) all
  value_run K k = part_run (λ D rest all. ArePairsAfter word InValue items (PairRest word value K D InValue delimiter) R separator rest all) (λ D. Stops D separator)
      (λ D b stops. stops_taken separator D (λ r w. D (b ∷ r) w) b (λ r w. (λ h. h, λ h. h)) stops)
      (λ D D' f. value_step_same word value delimiter separator items R K D D' f)
      (λ D D' b stops d f. value_step word value delimiter separator items R K D D' b stops (d.0, paired k.0 d.1, paired_ended word value paired has_word has_value K D' d.0 k.0 d.1 k.1 d.2) f)

-- Keyed lines.
module _ {V W X Y : Type 0} (key : X → V) (value : X → W) (given : List X → Y) (items : List X) (R : List ℕ → X → Type 0) (bare_value : Option W) (delimiter end : ℕ) where
  pub key_run : (D : List ℕ → W → Type 0) (begun : Bool) (K K' : List ℕ → V → Type 0) (run : List ℕ) → 0 < length run → LacksByte K delimiter × LacksByte K end → ((rest : List ℕ) × (v : V) × K' rest v) →
      ((rest : List ℕ) (v : V) → K' rest v ↔ K (run ++ rest) v) → (rest : List ℕ) (y : Y) →
      IsMappedText (AreKeyedAfter key items true (IsKeyed key value K' D bare_value delimiter) R end) given rest y ↔ IsMappedText (AreKeyedAfter key items begun (IsKeyed key value K D bare_value delimiter) R end) given (run ++ rest) y
  key_run D begun =
      let took : (was : Bool) (K K' : List ℕ → V → Type 0) (b : ℕ) → LacksByte K delimiter × LacksByte K end → ((rest : List ℕ) × (v : V) × K' rest v) → ((rest : List ℕ) (v : V) → K' rest v ↔ K (b ∷ rest) v) →
      (rest : List ℕ) (y : Y) → IsMappedText (AreKeyedAfter key items true (IsKeyed key value K' D bare_value delimiter) R end) given rest y ↔
      IsMappedText (AreKeyedAfter key items was (IsKeyed key value K D bare_value delimiter) R end) given (b ∷ rest) y =
      λ was K K' b lacks k f. key_taken key value given items R K D bare_value delimiter end was K' b
      (λ e. lacks.0 [] k.0 k.1 (rw e at ((f k.0 k.1).0 k.2))) (λ e. lacks.1 [] k.0 k.1 (rw e at ((f k.0 k.1).0 k.2))) f in
      begun_run (λ K. IsMappedText (AreKeyedAfter key items true (IsKeyed key value K D bare_value delimiter) R end) given) (λ K. LacksByte K delimiter × LacksByte K end)
      (λ K b lacks. (lacks_taken delimiter K (λ r v. K (b ∷ r) v) b (λ r v. (λ h. h, λ h. h)) lacks.0, lacks_taken end K (λ r v. K (b ∷ r) v) b (λ r v. (λ h. h, λ h. h)) lacks.1))
      (λ K K' f. key_same key value given items R K D bare_value delimiter end true K' f) (took true)
      (λ K. IsMappedText (AreKeyedAfter key items begun (IsKeyed key value K D bare_value delimiter) R end) given) (took begun)

  pub line_value_run : (K : List ℕ → V → Type 0) (kept : List V) (D D' : List ℕ → W → Type 0) (run : List ℕ) → LacksByte D end → ((rest : List ℕ) × (w : W) × D' rest w) →
      ((rest : List ℕ) (w : W) → D' rest w ↔ D (run ++ rest) w) → (rest : List ℕ) (y : Y) →
      IsMappedText (AreKeyedAfter key items true (KeyedRest key value K D' bare_value delimiter true kept) R end) given rest y ↔
      IsMappedText (AreKeyedAfter key items true (KeyedRest key value K D bare_value delimiter true kept) R end) given (run ++ rest) y
  line_value_run K kept = part_run (λ D. IsMappedText (AreKeyedAfter key items true (KeyedRest key value K D bare_value delimiter true kept) R end) given) (λ D. LacksByte D end)
      (λ D b lacks. lacks_taken end D (λ r w. D (b ∷ r) w) b (λ r w. (λ h. h, λ h. h)) lacks)
      (λ D D' f. value_same key value given items R K D bare_value delimiter end true kept {E = ℕ} (Ok false) D' f)
      (λ D D' b lacks d f. value_taken key value given items R K D bare_value delimiter end true kept {E = ℕ} (Ok true) D' b (λ e. lacks [] d.0 d.1 (rw e at ((f d.0 d.1).0 d.2))) f)
