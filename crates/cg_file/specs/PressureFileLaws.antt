-- What holds of the token over files of pressure.
use Rattle.std.proofs.Common.{◌≡◌, ℕ, ◌↔◌, List, [], ◌∷◌, ◌++◌, Option, Some, None, refl, sym, ◌∙◌, append_assoc, arith, codes}
use Rattle.std.proofs.lemmas.List.{append-nil}
use Rattle.cg_text.specs.Keyword.{text_of}
use Rattle.cg_text.specs.declared.keyword.Keyword.{Keyword}
use Rattle.cg_text.specs.declared.keyword.Keyword.TheVariants as word
use Rattle.cg_text.specs.declared.values.Hundredths.{Hundredths}
use Rattle.cg_join.specs.ApartLaws.{lines_apart}
use Rattle.cg_join.specs.Composites.{AreAverages as AveragesText}
use Rattle.cg_join.specs.CompositeLaws.{averages_are, averages_lacking}
use Rattle.cg_join.specs.CutLaws.{label_is}
use Rattle.cg_join.specs.LackingLaws.{concat_lacking, keyword_lacking}
use Rattle.cg_join.specs.Line.{IsLine}
use Rattle.cg_join.specs.Spelling.{IsConcat, IsMappedText, Apart}
use Rattle.cg_join.specs.TextBytes.{IsFixed, Lacking}
use Rattle.cg_value.specs.Files.{KindText}
use Rattle.cg_value.specs.Lines.{unlines}
use Rattle.cg_value.specs.ReadLine.{AreAverages, IsPressureLine, ArePressureLines}
use Rattle.cg_value.specs.declared.kind.ReadForm.TheVariants.{Pressure as PressureForm}
use Rattle.cg_value.specs.declared.value.Averages.{Averages}
use Rattle.cg_value.specs.declared.value.Value.{Value}
use Rattle.cg_value.specs.declared.value.Value.TheVariants.{Pressure}
use Rattle.cg_file.specs.OneOrBoth.{IsOneOrBoth, Differ}
use Rattle.cg_file.specs.WeightFileLaws.{line_and_rest, not_empty}

-- ---- A line

abbrev pub AveragesValues : Type 0
AveragesValues = (Unit {0} × Hundredths) × ((Unit {0} × Hundredths) × ((Unit {0} × Hundredths) × (Unit {0} × ℕ)))

abbrev pub line_averages : (Unit {0} × AveragesValues) × Unit {0} → Averages
line_averages v = record { avg10 = v.0.1.0.1; avg60 = v.0.1.1.0.1; avg300 = v.0.1.1.1.0.1; total = v.0.1.1.1.1.1 }

abbrev pub values_of : Averages → AveragesValues
values_of a = ((tt, a.avg10), ((tt, a.avg60), ((tt, a.avg300), (tt, a.total))))

-- The word and the averages.
abbrev pub WordAverages : Keyword → List ℕ → Unit {0} × AveragesValues → Type 0
WordAverages word = IsConcat (IsFixed (text_of word)) AveragesText

-- The line and its newline.
abbrev pub PressureText : Keyword → List ℕ → Averages → Type 0
PressureText word text a = (line : List ℕ) × (text ≡ line ++ 10 ∷ []) × IsPressureLine (text_of word) a line

pub word_lacks : (word : Keyword) → Lacking (WordAverages word) 10
word_lacks word = concat_lacking (keyword_lacking word) averages_lacking

averages_to : (text : List ℕ) (a : Averages) → AveragesText text (values_of a) → AreAverages a text
averages_to text a h =
    let k = (averages_are text (values_of a)).0 h in
    record { avg10 = k.first; avg60 = k.second; avg300 = k.third; total = k.fourth; text_is = k.text_is; avg10_is = k.first_is; avg60_is = k.second_is; avg300_is = k.third_is; total_is = k.fourth_is }

pub averages_from : (text : List ℕ) (a : Averages) → AreAverages a text → AveragesText text (values_of a)
averages_from text a h = (averages_are text (values_of a)).1
    record { first = h.avg10; second = h.avg60; third = h.avg300; fourth = h.total; text_is = h.text_is; first_is = h.avg10_is; second_is = h.avg60_is; third_is = h.avg300_is; fourth_is = h.total_is }

line_to : (word : Keyword) (text : List ℕ) (v : (Unit {0} × AveragesValues) × Unit {0}) → IsLine (WordAverages word) text v → PressureText word text (line_averages v)
line_to word text v h =
    let k = (label_is (text_of word) AveragesText h.front v.0).0 h.spells in
    (h.front, h.whole, (k.0, k.1, averages_to k.0 (line_averages v) k.2))

line_from : (word : Keyword) (text : List ℕ) (a : Averages) → PressureText word text a → IsLine (WordAverages word) text ((tt, values_of a), tt)
line_from word text a h = record {
  front = h.0;
  whole = h.1;
  spells = (label_is (text_of word) AveragesText h.0 (tt, values_of a)).1 (h.2.0, h.2.1, averages_from h.2.0 a h.2.2);
}

pub line_is : (word : Keyword) (text : List ℕ) (a : Averages) → IsMappedText (IsLine (WordAverages word)) line_averages text a ↔ PressureText word text a
line_is word text a = (λ h. rw (← h.2) (line_to word text h.0 h.1), λ h. (((tt, values_of a), tt), line_from word text a h, refl))

-- Nothing goes on from a line.
pub line_apart : {W : Type 0} (word : Keyword) (Q : List ℕ → W → Type 0) → Apart (PressureText word) Q
line_apart word Q front more back byte v u w h k l =
    lines_apart line_averages Q (word_lacks word) front more back byte v u w ((line_is word front v).1 h) ((line_is word (front ++ byte ∷ more) u).1 k) l

pub line_filled : (word : Keyword) (a : Averages) → PressureText word [] a → ⊥
line_filled word a h = not_empty h.0 [] 10 (sym h.1)

some_first : (b : ℕ) (more : List ℕ) (a : Averages) → PressureText word.Some (b ∷ more) a → b ≡ 115
some_first b more a h =
    let line : h.0 ≡ codes "some" ++ h.2.0 = h.2.1 in
    let whole : b ∷ more ≡ (codes "some" ++ h.2.0) ++ 10 ∷ [] = rw line at h.1 in
    cc

full_first : (b : ℕ) (more : List ℕ) (a : Averages) → PressureText word.Full (b ∷ more) a → b ≡ 102
full_first b more a h =
    let line : h.0 ≡ codes "full" ++ h.2.0 = h.2.1 in
    let whole : b ∷ more ≡ (codes "full" ++ h.2.0) ++ 10 ∷ [] = rw line at h.1 in
    cc

pub words_differ : Differ (PressureText word.Some) (PressureText word.Full)
words_differ = (line_filled word.Some, λ b more back v w h k. omega (arith, some_first b more v h, full_first b back w k))

-- ---- The file

abbrev pub pressure_value : Option Averages × Option Averages → Value
pressure_value v = Pressure (v.0) (v.1)

abbrev pub SomeOrFull : List ℕ → Option Averages × Option Averages → Type 0
SomeOrFull text v = IsOneOrBoth (PressureText word.Some) (PressureText word.Full) text (v.0) (v.1)

lines_to : (text : List ℕ) (a b : Option Averages) → SomeOrFull text (a, b) → (lines : List (List ℕ)) × ArePressureLines a b lines × (text ≡ unlines lines)
lines_to text None None h = absurd h
lines_to text (Some a) None h = let one = h.begins in (one.0 ∷ [], (one.0, refl, one.2), line_and_rest text h.front h.back one.0 [] h.whole one.1 h.ends)
lines_to text None (Some b) h = (h.0 ∷ [], (h.0, refl, h.2), h.1)
lines_to text (Some a) (Some b) h =
    let one = h.begins in
    let two = h.ends in
    (one.0 ∷ two.0 ∷ [], (one.0, two.0, refl, one.2, two.2), line_and_rest text h.front h.back one.0 (two.0 ++ 10 ∷ []) h.whole one.1 two.1)

lines_from : (text : List ℕ) (a b : Option Averages) (lines : List (List ℕ)) → ArePressureLines a b lines → text ≡ unlines lines → SomeOrFull text (a, b)
lines_from text None None lines h e = absurd h
lines_from text (Some a) None lines h e = record { front = text; back = []; whole = sym (append-nil text); begins = (h.0, rw h.1 at e, h.2); ends = refl }
lines_from text None (Some b) lines h e = (h.0, rw h.1 at e, h.2)
lines_from text (Some a) (Some b) lines h e = record {
  front = h.0 ++ 10 ∷ [];
  back = h.1 ++ 10 ∷ [];
  whole = (let f : text ≡ h.0 ++ 10 ∷ (h.1 ++ 10 ∷ []) = rw h.2 at e in f ∙ sym (append_assoc h.0 (10 ∷ []) (h.1 ++ 10 ∷ [])));
  begins = (h.0, refl, h.3);
  ends = (h.1, refl, h.4);
}

-- Such lines, turned into a value, are a file of pressure.
pub pressure_is : (text : List ℕ) (v : Value) → IsMappedText SomeOrFull pressure_value text v ↔ KindText PressureForm v text
pressure_is text v = (
  λ h. (let k = lines_to text (h.0.0) (h.0.1) h.1 in record { lines = k.0; spelled = record { x = h.0; value = sym h.2; spelled = k.1 }; text_is = k.2 }),
  λ h. (let a = h.spelled in (a.x, lines_from text (a.x.0) (a.x.1) h.lines a.spelled h.text_is, sym a.value)),
)
