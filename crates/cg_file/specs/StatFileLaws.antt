-- What holds of the tokens over files of what devices did.
use Rattle.std.proofs.Common.{◌≡◌, ◌≢◌, ℕ, ◌+◌, ◌≤◌, ◌↔◌, inl, inr, Bool, false, Option, List, [], ◌∷◌, ◌++◌, length, refl, sym, ◌∙◌, ap, append_assoc, arith}
use Rattle.std.specs.List.{sum_by}
use Rattle.cg_text.specs.Amount.{IsAmount}
use Rattle.cg_text.specs.Token.{AreBytes, HasOneText, Spells}
use Rattle.cg_text.specs.declared.values.Device.{Device}
use Rattle.cg_join.specs.BeginsLaws.{joined_begins}
use Rattle.cg_join.specs.FilledLaws.{joined_filled}
use Rattle.cg_join.specs.JoinedPairs.{AreJoinedPairs}
use Rattle.cg_join.specs.JoinedPairsLaws.{joined_bytes, joined_one}
use Rattle.cg_join.specs.LackingLaws.{amount_lacking, device_name_lacking, word_lacking}
use Rattle.cg_join.specs.Line.{LacksByte}
use Rattle.cg_join.specs.Pairs.{ArePairs, IsPairText, pair_size}
use Rattle.cg_join.specs.PairsLaws.{pair_nil, word_begun}
use Rattle.cg_join.specs.Repeat.{items_size}
use Rattle.cg_join.specs.Spelling.{Apart, IsConcat, IsMappedText, spells_as}
use Rattle.cg_join.specs.StartLaws.{lacks_stops}
use Rattle.cg_join.specs.TextBytes.{BeginsBy, Filled}
use Rattle.cg_join.specs.WordStartLaws.{SpellsWord, one_word, word_only, word_text_bytes}
use Rattle.cg_value.specs.Print.{print_stat_line}
use Rattle.cg_value.specs.RawLinesLaws.{raw_lines}
use Rattle.cg_value.specs.ReadLine.{IsStatLine, IsStatPair, pad_text}
use Rattle.cg_value.specs.Held.{held_of_key}
use Rattle.cg_value.specs.declared.kind.ReadForm.TheVariants.{DeviceStats as StatsForm}
use Rattle.cg_value.specs.declared.value.StatLine.{StatLine}
use Rattle.cg_value.specs.declared.value.StatPair.{StatPair}
use Rattle.cg_value.specs.declared.value.Value.{Value}
use Rattle.cg_value.specs.declared.value.Value.TheVariants.{DeviceStats}
use Rattle.cg_file.specs.DeviceLineLaws.{DeviceNameText}
use Rattle.cg_file.specs.KeyedFileLaws.{key_parts}
use Rattle.cg_file.specs.Kinds.{held_of_whole}
use Rattle.cg_file.specs.ManyFileLaws.{raw_lacks}
use Rattle.cg_file.specs.NestedFileLaws as nested
use Rattle.cg_file.specs.Pad.{IsLed, IsPadded, IsUnspaced}
use Rattle.cg_file.specs.PadLaws.{before_refused, pad_bytes, pad_one}
use Rattle.cg_file.specs.StartableLaws.{Startable, amount_startable, concat_startable, device_name_startable, startable_as, mapped_text_startable}
use Rattle.cg_file.specs.LineHeldLaws.{items_within, lines_held}
use Rattle.cg_file.specs.declared.pad.Padding.TheVariants.{Before}

-- How lines are turned into a file's value, and what a device, its pad and its pairs are turned into.
abbrev pub stats_value : List StatLine → Value
stats_value lines = DeviceStats lines

abbrev pub stat_line : Option Device × (Bool × List StatPair) → StatLine
stat_line v = record { device = v.0; pad = v.1.0; pairs = v.1.1 }

-- The vectors in a line: its pairs, and their keys.
abbrev pub stat_size : StatLine → ℕ
stat_size line = items_size (pair_size (λ p. p.key) (λ p. p.amount) length (λ _. 0)) line.pairs

pub no_less : (n : ℕ) → n ≤ 0 + n
no_less n = omega arith

-- ---- Padded texts

module _ {S V : Type 0} {A : S → List ℕ → V → Type 0} {s : S} {R : List ℕ → V → Type 0} (spelled : Spells A s R) where
  pub unspaced_spells : IsUnspaced R → IsUnspaced (A s)
  unspaced_spells none = (λ v h. none.0 v ((spelled.is [] v).0 h), λ back v h. none.1 back v ((spelled.is (32 ∷ back) v).0 h))

  module _ (ready : V) where
    led_to : (text : List ℕ) (v : V) → IsLed (A s) ready text v → IsLed R ready text v
    led_to text v (inl h) = inl h
    led_to text v (inr h) = inr (h.0, h.1, (spelled.is h.0 v).0 h.2)

    led_from : (text : List ℕ) (v : V) → IsLed R ready text v → IsLed (A s) ready text v
    led_from text v (inl h) = inl h
    led_from text v (inr h) = inr (h.0, h.1, (spelled.is h.0 v).1 h.2)

    pub padded_spells : {X : Type 0} {M : X → List ℕ → Bool × V → Type 0} {x : X} → Spells M x (IsPadded (A s) ready) → Spells M x (IsPadded R ready)
    padded_spells m = spells_as m (λ text v. (λ h. (h.0, h.1, led_to h.0 (v.1) h.2), λ h. (h.0, h.1, led_from h.0 (v.1) h.2)))

-- ---- The pairs of a line

key_lacks_mark : LacksByte (SpellsWord false) 61
key_lacks_mark = word_only false 61 (λ h. h.2 refl)

no_mark : ◌≡◌ {A = ℕ} 32 61 → ⊥
no_mark e = omega (arith, e)

module _ (kernel : Bool) where
  abbrev pub PairText : List ℕ → StatPair → Type 0
  PairText text p = IsPairText (λ q. q.key) (λ q. q.amount) (SpellsWord false) (λ t v. IsAmount kernel v t) 61 text p

  -- One or more pairs with a space between.
  abbrev pub AreStatPairs : List ℕ → List StatPair → Type 0
  AreStatPairs text ps = AreJoinedPairs (λ q. q.key) PairText 32 text ps

  pair_is : (text : List ℕ) (p : StatPair) → PairText text p ↔ IsStatPair kernel p text
  pair_is = key_parts (λ p. p.key) (λ p. p.amount) 61 (IsAmount kernel)

  pub amount_lacks_space : LacksByte (λ t v. IsAmount kernel v t) 32
  amount_lacks_space = (amount_lacking 32 kernel (omega arith)).is

  pairs_one : HasOneText AreStatPairs
  pairs_one = joined_one (λ p. p.key) (λ p. p.amount) (SpellsWord false) (λ t v. IsAmount kernel v t) 61 32 (λ key amount. record { key = key; amount = amount }) (λ p. refl)
      key_lacks_mark (lacks_stops (λ t v. IsAmount kernel v t) 32 amount_lacks_space) (one_word false) (amount_startable kernel).one

  pairs_bytes : (text : List ℕ) (ps : List StatPair) → AreStatPairs text ps → AreBytes text
  pairs_bytes = joined_bytes (λ p. p.key) (λ p. p.amount) (SpellsWord false) (λ t v. IsAmount kernel v t) 61 32 (omega arith) (omega arith) (word_text_bytes false) (amount_startable kernel).bytes

  pair_filled : Filled PairText
  pair_filled = record { is = pair_nil (λ p. p.key) (λ p. p.amount) 61 (SpellsWord false) (λ t v. IsAmount kernel v t) }

  pair_begins : BeginsBy (λ c. c ≢ 32) PairText
  pair_begins = record {
    is = λ byte back p h e. (let k = word_begun (λ q. q.key) (λ q. q.amount) 61 (SpellsWord false) (λ t v. IsAmount kernel v t) 32 no_mark back p (rw e at h) in
        (word_lacking 32 false (omega arith)).is [] k.0 k.1 k.2);
  }

  pub pairs_unspaced : IsUnspaced AreStatPairs
  pairs_unspaced = (
    λ ps h. (joined_filled 32 pair_filled).is ps h.0,
    λ back ps h. (joined_begins 32 pair_filled pair_begins).is 32 back ps h.0 refl,
  )

  -- ---- Lines

  -- A space and pairs, or nothing.
  pairs_to : (text : List ℕ) (ps : List StatPair) → IsLed AreStatPairs [] text ps → ArePairs (λ q. q.key) PairText 32 text ps
  pairs_to text ps (inl h) = rw h.1 (h.0, tt)
  pairs_to text [] (inr h) = absurd h.2.0
  pairs_to text (p ∷ ps) (inr h) = ((h.0, h.1, h.2.0), h.2.1)

  pairs_from : (text : List ℕ) (ps : List StatPair) → ArePairs (λ q. q.key) PairText 32 text ps → IsLed AreStatPairs [] text ps
  pairs_from text [] h = inl (h.0, refl)
  pairs_from text (p ∷ ps) h = inr (h.0.0, h.0.1, (h.0.2, h.1))

  abbrev pub ArePadded : List ℕ → Bool × List StatPair → Type 0
  ArePadded = IsPadded AreStatPairs []

  line_to : (text : List ℕ) (v : Option Device × (Bool × List StatPair)) → IsConcat (DeviceNameText kernel) ArePadded text v → IsStatLine kernel (stat_line v) text
  line_to text v h =
      let led = pairs_to h.ends.0 (v.1.1) h.ends.2 in
      record {
        device = h.front;
        pairs = h.ends.0;
        line_is = h.whole ∙ ap (λ t. h.front ++ t) h.ends.1 ∙ sym (append_assoc h.front (pad_text (v.1.0)) h.ends.0);
        device_is = h.begins;
        pairs_are = nested.led_to (IsStatPair kernel) PairText pair_is h.ends.0 (v.1.1) led.0;
        distinct = led.1;
      }

  line_from : (text : List ℕ) (line : StatLine) → IsStatLine kernel line text → IsConcat (DeviceNameText kernel) ArePadded text (line.device, (line.pad, line.pairs))
  line_from text line h = record {
    front = h.device;
    back = pad_text line.pad ++ h.pairs;
    whole = h.line_is ∙ append_assoc h.device (pad_text line.pad) h.pairs;
    begins = h.device_is;
    ends = (h.pairs, refl, pairs_from h.pairs line.pairs (nested.led_from (IsStatPair kernel) PairText pair_is h.pairs line.pairs h.pairs_are, h.distinct));
  }

  pub stat_is : (text : List ℕ) (line : StatLine) → IsMappedText (IsConcat (DeviceNameText kernel) ArePadded) stat_line text line ↔ IsStatLine kernel line text
  stat_is text line = (
    λ h. rw (← h.2) (line_to text h.0 h.1),
    λ h. ((line.device, (line.pad, line.pairs)), line_from text line h, refl),
  )

  pub stat_apart : Apart (DeviceNameText kernel) ArePadded
  stat_apart front more back byte v u w h k l = before_refused AreStatPairs [] byte (λ e. (device_name_lacking 32 kernel (omega arith)).is front more u (rw e at k)) back w l

  padded_startable : Startable ArePadded
  padded_startable = record {
    some = ([], (false, []), ([], refl, inl (refl, refl)));
    one = pad_one AreStatPairs [] Before (λ _. pairs_unspaced) pairs_one;
    bytes = pad_bytes AreStatPairs [] Before pairs_bytes;
  }

  pub stat_startable : Startable (λ text line. IsStatLine kernel line text)
  stat_startable = startable_as stat_is (mapped_text_startable stat_line (concat_startable stat_apart (device_name_startable kernel) padded_startable))

  pub stat_lacks : LacksByte (λ text line. IsStatLine kernel line text) 10
  stat_lacks front more line h =
      let text = front ++ 10 ∷ more in
      let raw = raw_lines (StatsForm kernel) (DeviceStats (line ∷ [])) (text ∷ []) (record { xs = line ∷ []; value = refl; spelled = (h, tt) }) in
      raw_lacks front more text (refl, raw.0)

-- ---- What is held

pair_within : (p : StatPair) → 1 + pair_size (λ q. q.key) (λ q. q.amount) length (λ _. 0) p ≤ held_of_key p.key
pair_within p = omega arith

pub stats_held : (lines : List StatLine) → items_size stat_size lines ≤ held_of_whole (stats_value lines)
stats_held = lines_held stat_size (λ s. sum_by (λ p. held_of_key p.key) s.pairs) print_stat_line
    (λ s. items_within (pair_size (λ q. q.key) (λ q. q.amount) length (λ _. 0)) (λ p. held_of_key p.key) pair_within s.pairs)
