-- What holds of the tokens over files of the parameters of devices.
use Rattle.std.proofs.Common.{◌≡◌, ℕ, ◌+◌, ◌<◌, ◌≤◌, ◌↔◌, true, false, Option, List, [], ◌∷◌, ◌++◌, length, refl, arith}
use Rattle.std.specs.List.{sum_by}
use Rattle.cg_text.specs.Param.{IsParam}
use Rattle.cg_text.specs.declared.values.Device.{Device}
use Rattle.cg_text.specs.declared.values.ParamValue.{ParamValue}
use Rattle.cg_text.specs.declared.values.ParamValue.TheVariants as param
use Rattle.cg_join.specs.ApartLaws.{fixed_apart, label_apart}
use Rattle.cg_join.specs.JoinedPairs.{AreJoinedPairs}
use Rattle.cg_join.specs.JoinedPairsLaws.{joined_bytes, joined_one}
use Rattle.cg_join.specs.LackingLaws.{device_name_lacking, param_lacking}
use Rattle.cg_join.specs.Line.{LacksByte}
use Rattle.cg_join.specs.Pairs.{IsPairText, pair_size}
use Rattle.cg_join.specs.ParamState.{param_size}
use Rattle.cg_join.specs.Repeat.{AreJoined, items_size}
use Rattle.cg_join.specs.Spelling.{Apart, IsConcat, IsMappedText}
use Rattle.cg_join.specs.StartLaws.{lacks_stops}
use Rattle.cg_join.specs.TextBytes.{IsFixed}
use Rattle.cg_join.specs.WordStartLaws.{SpellsWord, one_word, word_only, word_text_bytes}
use Rattle.cg_value.specs.Held.{held_of_key, held_of_param}
use Rattle.cg_value.specs.Print.{print_param_line}
use Rattle.cg_value.specs.RawLinesLaws.{raw_lines}
use Rattle.cg_value.specs.ReadLine.{IsParamLine, IsParamPair}
use Rattle.cg_value.specs.Lines.{AreLed}
use Rattle.cg_value.specs.declared.kind.ReadForm.TheVariants.{DeviceParams as ParamsForm}
use Rattle.cg_value.specs.declared.value.ParamLine.{ParamLine}
use Rattle.cg_value.specs.declared.value.ParamPair.{ParamPair}
use Rattle.cg_value.specs.declared.value.Value.{Value}
use Rattle.cg_value.specs.declared.value.Value.TheVariants.{DeviceParams}
use Rattle.cg_file.specs.DeviceLineLaws.{DeviceNameText}
use Rattle.cg_file.specs.KeyedFileLaws.{key_parts}
use Rattle.cg_file.specs.Kinds.{held_of_whole}
use Rattle.cg_file.specs.LineHeldLaws.{items_within, lines_held}
use Rattle.cg_file.specs.ManyFileLaws.{raw_lacks}
use Rattle.cg_file.specs.NestedFileLaws as nested
use Rattle.cg_file.specs.StartableLaws.{Startable, concat_startable, device_name_startable, fixed_startable, param_startable, startable_as, mapped_text_startable}

-- How lines are turned into a file's value, and what a device and its parameters are turned into.
abbrev pub device_params_value : List ParamLine → Value
device_params_value lines = DeviceParams lines

abbrev pub param_line : Option Device × (Unit {0} × List ParamPair) → ParamLine
param_line v = record { device = v.0; params = v.1.1 }

-- The vectors in a line: its pairs, their keys, and names.
abbrev pub params_size : ParamLine → ℕ
params_size line = items_size (pair_size (λ p. p.key) (λ p. p.value) length param_size) line.params

pub no_less : (n : ℕ) → n ≤ 0 + (0 + n)
no_less n = omega arith

-- ---- The pairs of a line

abbrev pub PairText : List ℕ → ParamPair → Type 0
PairText text p = IsPairText (λ q. q.key) (λ q. q.value) (SpellsWord false) (λ t v. IsParam v t) 61 text p

-- One or more pairs with a space between.
abbrev pub AreParamPairs : List ℕ → List ParamPair → Type 0
AreParamPairs text ps = AreJoinedPairs (λ q. q.key) PairText 32 text ps

pair_is : (text : List ℕ) (p : ParamPair) → PairText text p ↔ IsParamPair p text
pair_is = key_parts (λ p. p.key) (λ p. p.value) 61 IsParam

key_lacks_mark : LacksByte (SpellsWord false) 61
key_lacks_mark = word_only false 61 (λ h. h.2 refl)

pub param_lacks_space : LacksByte (λ t v. IsParam v t) 32
param_lacks_space = (param_lacking 32 (omega arith)).is

some_pair : (text : List ℕ) × (ps : List ParamPair) × AreParamPairs text ps
some_pair =
    let value = param_startable.some in
    let key = 97 ∷ [] in (
      key ++ 61 ∷ value.0,
      record { key = key; value = value.1 } ∷ [],
      (record { front = key; back = value.0; whole = refl; begins = (refl, (omega arith, ((omega arith, omega arith, (λ e. omega (arith, e))), tt))); ends = value.2 }, (tt, tt)),
    )

pairs_startable : Startable AreParamPairs
pairs_startable = record {
  some = some_pair;
  one = joined_one (λ p. p.key) (λ p. p.value) (SpellsWord false) (λ t v. IsParam v t) 61 32 (λ key value. record { key = key; value = value }) (λ p. refl)
      key_lacks_mark (lacks_stops (λ t v. IsParam v t) 32 param_lacks_space) (one_word false) param_startable.one;
  bytes = joined_bytes (λ p. p.key) (λ p. p.value) (SpellsWord false) (λ t v. IsParam v t) 61 32 (omega arith) (omega arith) (word_text_bytes false) param_startable.bytes;
}

-- ---- Lines

abbrev pub SpacedPairs : List ℕ → Unit {0} × List ParamPair → Type 0
SpacedPairs text v = IsConcat (IsFixed (32 ∷ [])) AreParamPairs text v

pairs_to : (text back : List ℕ) (ps : List ParamPair) → text ≡ 32 ∷ back → AreJoined PairText 32 back ps → (0 < length ps) × AreLed IsParamPair ps text
pairs_to text back [] e h = absurd h
pairs_to text back (p ∷ ps) e h = (omega arith, nested.led_to IsParamPair PairText pair_is text (p ∷ ps) (back, e, h))

pairs_from : (text : List ℕ) (ps : List ParamPair) → 0 < length ps → AreLed IsParamPair ps text → (back : List ℕ) × (text ≡ 32 ∷ back) × AreJoined PairText 32 back ps
pairs_from text [] some h = absurd (omega arith)
pairs_from text (p ∷ ps) some h = nested.led_from IsParamPair PairText pair_is text (p ∷ ps) h

line_to : (text : List ℕ) (v : Option Device × (Unit {0} × List ParamPair)) → IsConcat (DeviceNameText true) SpacedPairs text v → IsParamLine (param_line v) text
line_to text v h =
    let led = pairs_to h.back h.ends.back (v.1.1) (rw h.ends.begins at h.ends.whole) h.ends.ends.0 in
    record { device = h.front; params = h.back; line_is = h.whole; device_is = h.begins; some = led.0; params_are = led.1; distinct = h.ends.ends.1 }

line_from : (text : List ℕ) (line : ParamLine) → IsParamLine line text → IsConcat (DeviceNameText true) SpacedPairs text (line.device, (tt, line.params))
line_from text line h =
    let led = pairs_from h.params line.params h.some h.params_are in
    record {
      front = h.device;
      back = h.params;
      whole = h.line_is;
      begins = h.device_is;
      ends = record { front = 32 ∷ []; back = led.0; whole = led.1; begins = refl; ends = (led.2, h.distinct) };
    }

pub params_is : (text : List ℕ) (line : ParamLine) → IsMappedText (IsConcat (DeviceNameText true) SpacedPairs) param_line text line ↔ IsParamLine line text
params_is text line = (
  λ h. rw (← h.2) (line_to text h.0 h.1),
  λ h. ((line.device, (tt, line.params)), line_from text line h, refl),
)

pub params_apart : Apart (DeviceNameText true) SpacedPairs
params_apart = label_apart (device_name_lacking 32 true (omega arith))

pub params_startable : Startable (λ text line. IsParamLine line text)
params_startable = startable_as params_is (mapped_text_startable param_line (concat_startable params_apart (device_name_startable true)
    (concat_startable (fixed_apart (32 ∷ []) AreParamPairs) (fixed_startable (32 ∷ []) (omega arith, tt)) pairs_startable)))

pub params_lack : LacksByte (λ text line. IsParamLine line text) 10
params_lack front more line h =
    let text = front ++ 10 ∷ more in
    let raw = raw_lines ParamsForm (DeviceParams (line ∷ [])) (text ∷ []) (record { xs = line ∷ []; value = refl; spelled = (h, tt) }) in
    raw_lacks front more text (refl, raw.0)

-- ---- What is held

pair_bound : (key : List ℕ) (v : ParamValue) → 1 + (length key + param_size v) ≤ held_of_key key + held_of_param v
pair_bound key (param.Whole n) = omega arith
pair_bound key (param.Decimal h) = omega arith
pair_bound key (param.Name name) = omega arith

pub params_held : (lines : List ParamLine) → items_size params_size lines ≤ held_of_whole (device_params_value lines)
params_held = lines_held params_size (λ l. sum_by (λ p. held_of_key p.key + held_of_param p.value) l.params) print_param_line
    (λ l. items_within (pair_size (λ p. p.key) (λ p. p.value) length param_size) (λ p. held_of_key p.key + held_of_param p.value) (λ p. pair_bound p.key p.value) l.params)
