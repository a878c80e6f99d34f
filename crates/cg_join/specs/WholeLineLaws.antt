-- What holds of lines of which one is taken as a whole.
use Rattle.std.proofs.Common.{◌≡◌, ℕ, ◌+◌, ◌<◌, ◌↔◌, inl, Bool, false, Option, List, [], ◌∷◌, ◌++◌, length, take, drop, get_or, Ok, Err, is_err, OnOk, refl, sym, ◌∙◌, ap, arith, append_assoc}
use Rattle.std.proofs.Math.Seq.{take-add}
use Rattle.std.proofs.lemmas.List.{take_more}
use Rattle.std.specs.declared.result.Result.{Result}
use Rattle.cg_text.specs.Token.{HasOneText}
use Rattle.cg_index.specs.Keyed.{is_repeated}
use Rattle.cg_index.specs.declared.keyed.Refused.{Refused}
use Rattle.cg_join.specs.DistinctLaws.{with_distinct}
use Rattle.cg_join.specs.Keyed.{IsKeyed, IsPairOf}
use Rattle.cg_join.specs.KeyedState.{AreKeyedAfter}
use Rattle.cg_join.specs.Line.{LacksByte}
use Rattle.cg_join.specs.Lines.{AreLinesFrom, AreLinesAfter}
use Rattle.cg_join.specs.LinesLaws.{lines_first}
use Rattle.cg_join.specs.Repeat.{IsList}
use Rattle.cg_join.specs.RepeatLaws.{not_nil, same_front}
use Rattle.cg_join.specs.Spelling.{IsMappedText}

-- The line is a rest of the token at hand, and F are the texts of a new one.
module _ {V : Type 0} (end : ℕ) (P F R : List ℕ → V → Type 0) (new : (rest : List ℕ) (v : V) → F rest v ↔ R rest v) (lacks : LacksByte P end) (one : HasOneText P) (line : List ℕ) (v : V) (h : P line v) where
  whole_at : (begun : Bool) (items : List V) (rest : List ℕ) (us : List V) → AreLinesFrom begun P R end (line ++ end ∷ rest) us →
      (vs : List V) × (items ++ us ≡ (items ++ v ∷ []) ++ vs) × AreLinesFrom false F R end rest vs
  whole_at begun items rest [] k = absurd (not_nil end line rest (sym k.1))
  whole_at begun items rest (u ∷ us) k =
      let s = same_front end P (λ front more w u a b. lacks front more u b) line rest k.0 k.1 v u k.2 h k.3 in
      let same : u ≡ v = one k.0 u v k.3 (rw s.0 at h) in
      (us, rw (same, append_assoc items (v ∷ []) us) refl, lines_first end R F R (λ r w. (new r w).1) false rest us (rw (sym s.1) at k.4))

  after : (begun : Bool) (items : List V) (rest : List ℕ) (all : List V) → AreLinesAfter (items ++ v ∷ []) false F R end rest all ↔ AreLinesAfter items begun P R end (line ++ end ∷ rest) all
  after begun items rest all = (
    λ k. (v ∷ k.0, k.1 ∙ append_assoc items (v ∷ []) k.0, (line, rest, refl, h, lines_first end F R R (λ r w. (new r w).0) false rest k.0 k.2)),
    λ k. (let t = whole_at begun items rest k.0 k.2 in (t.0, k.1 ∙ t.1, t.2)),
  )

  -- The line and its end are taken.
  pub lines_whole : (begun : Bool) (items : List V) (rest : List ℕ) (all : List V) → AreLinesAfter (items ++ v ∷ []) false F R end rest all ↔ AreLinesAfter items begun P R end ((line ++ end ∷ []) ++ rest) all
  lines_whole begun items rest all = rw (append_assoc line (end ∷ []) rest) (after begun items rest all)

-- The bytes in front of a delimiter, the delimiter, and bytes after it.
pub delimiter_cut : (bytes : List ℕ) (n m delimiter : ℕ) → n < length bytes → get_or bytes n 0 ≡ delimiter → take (n + 1 + m) bytes ≡ take n bytes ++ delimiter ∷ take m (drop (n + 1) bytes)
delimiter_cut bytes n m delimiter h e =
    let back = take m (drop (n + 1) bytes) in
    take-add (n + 1) m bytes ∙ ap (λ xs. xs ++ back) (take_more bytes n 0 h) ∙ append_assoc (take n bytes) (get_or bytes n 0 ∷ []) back ∙ ap (λ b. take n bytes ++ b ∷ back) e

-- One more text after a list, with a separator before it.
pub list_longer : {V : Type 0} (separator : ℕ) (P R : List ℕ → V → Type 0) (front text : List ℕ) (vs : List V) (v : V) → IsList P R separator front vs → R text v → IsList P R separator (front ++ separator ∷ text) (vs ++ v ∷ [])
list_longer separator P R front text [] v h k = absurd h
list_longer separator P R front text (w ∷ []) v h k = (front, text, refl, h, k)
list_longer separator P R front text (w ∷ u ∷ us) v h k =
    (h.0, h.1 ++ separator ∷ text, rw h.2 (append_assoc h.0 (separator ∷ h.1) (separator ∷ text)), h.3, list_longer separator R R h.1 text (u ∷ us) v h.4 k)

-- What was read, a byte, and a text after it.
pub front_longer : (bytes : List ℕ) (used count separator : ℕ) → used < length bytes → get_or bytes used 0 ≡ separator →
    take (used + (1 + count)) bytes ≡ take used bytes ++ separator ∷ take count (drop (used + 1) bytes)
front_longer bytes used count separator h e =
    let same : used + (1 + count) ≡ used + 1 + count = omega arith in
    ap (λ n. take n bytes) same ∙ delimiter_cut bytes used count separator h e

-- A pair that was pushed is new, and the last one.
pub pushed_last : {A T : Type 0} (r : Result (Unit {0}) (Refused T)) → false ≡ is_err r → OnOk r A → A
pushed_last (Ok u) e h = h
pushed_last (Err x) e h = absurd (cc)

pub pushed_new : {T : Type 0} (r : Result (Unit {0}) (Refused T)) → false ≡ is_err r → is_repeated r ≡ false
pushed_new (Ok u) e = refl
pushed_new (Err x) e = absurd (cc)

module _ {V W X : Type 0} (key : X → V) (value : X → W) (bare_value : Option W) (delimiter : ℕ) (K : List ℕ → V → Type 0) (D : List ℕ → W → Type 0) where
  -- A pair's text is one of its key and its value.
  pub pair_text : (text : List ℕ) (p : X) (found : V × W) → key p ≡ found.0 → value p ≡ found.1 → IsPairOf K D delimiter text found → IsKeyed key value K D bare_value delimiter text p
  pair_text text p found e f h = inl (record { front = h.front; back = h.back; whole = h.whole; begins = rw e h.begins; ends = rw f h.ends })

  abbrev Line : List ℕ → X → Type 0
  Line = IsKeyed key value K D bare_value delimiter

  -- The line of a pair, and its end, are taken.
  pub keyed_whole : {Y : Type 0} (end : ℕ) (given : List X → Y) (F R : List ℕ → X → Type 0) → ((rest : List ℕ) (p : X) → F rest p ↔ R rest p) → LacksByte Line end → HasOneText Line → (line : List ℕ) (p : X) → Line line p →
      (begun : Bool) (items new : List X) → new ≡ items ++ p ∷ [] → (rest : List ℕ) (y : Y) →
      IsMappedText (AreKeyedAfter key new false F R end) given rest y ↔ IsMappedText (AreKeyedAfter key items begun Line R end) given ((line ++ end ∷ []) ++ rest) y
  keyed_whole end given F R new lacks one line p h begun items all e rest y =
      let same : (ps : List X) → AreKeyedAfter key all false F R end rest ps ↔ AreKeyedAfter key items begun Line R end ((line ++ end ∷ []) ++ rest) ps =
      λ ps. rw e (with_distinct (lines_whole end Line F R new lacks one line p h begun items rest ps)) in
      (λ k. (k.0, (same k.0).0 k.1, k.2), λ k. (k.0, (same k.0).1 k.1, k.2))
