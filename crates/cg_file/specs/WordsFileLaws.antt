-- What holds of the files of words.
use Rattle.std.proofs.Common.{◌≡◌, ℕ, ◌↔◌, ◌⊎◌, inl, inr, true, List, [], ◌∷◌, refl, sym, ◌∙◌, ap}
use Rattle.std.proofs.lemmas.List.Elements.{All-nil, All-cons, All-head, All-tail}
use Rattle.std.specs.List.{All}
use Rattle.cg_text.specs.Word.{IsControllerWord}
use Rattle.cg_join.specs.Distinct.{AreDistinct}
use Rattle.cg_join.specs.Repeat.{AreJoined}
use Rattle.cg_join.specs.Spelling.{IsMappedText}
use Rattle.cg_join.specs.WordStartLaws.{SpellsWord}
use Rattle.cg_value.specs.Files.{KindText}
use Rattle.cg_value.specs.Lines.{unlines}
use Rattle.cg_value.specs.ReadLine.{AreWords, words_line}
use Rattle.cg_value.specs.declared.kind.ReadForm.TheVariants.{Words as WordsForm}
use Rattle.cg_value.specs.declared.value.Value.{Value}
use Rattle.cg_file.specs.WordsMapped.{AreSpacedWords, IsWordsText, words_value}

-- Joined words are their line.
joined_line : (text : List ℕ) (words : List (List ℕ)) → AreJoined (SpellsWord true) 32 text words → All IsControllerWord words × (text ≡ words_line words)
joined_line text [] h = absurd h
joined_line text (w ∷ []) h = (All-cons IsControllerWord w [] (rw h.0 h.1) (All-nil IsControllerWord), sym h.0)
joined_line text (w ∷ x ∷ ws) h =
    let more = joined_line h.1 (x ∷ ws) h.4 in
    (All-cons IsControllerWord w (x ∷ ws) (rw h.3.0 h.3.1) more.0, h.2 ∙ rw (← h.3.0, ← more.1) refl)

pub line_joined : (w : List ℕ) (ws : List (List ℕ)) → All IsControllerWord (w ∷ ws) → AreJoined (SpellsWord true) 32 (words_line (w ∷ ws)) (w ∷ ws)
line_joined w [] h = (refl, All-head IsControllerWord w [] h)
line_joined w (x ∷ ws) h = (w, words_line (x ∷ ws), refl, (refl, All-head IsControllerWord w (x ∷ ws) h), line_joined x ws (All-tail IsControllerWord w (x ∷ ws) h))

-- Words, or none, are their line.
spaced_line : (text : List ℕ) (words : List (List ℕ)) → AreSpacedWords text words → All IsControllerWord words × AreDistinct words × (text ≡ words_line words)
spaced_line text words (inl h) = let k = joined_line text words h.0 in (k.0, h.1, k.1)
spaced_line text words (inr h) = rw h.1 (All-nil IsControllerWord, tt, h.0)

line_spaced : (words : List (List ℕ)) → All IsControllerWord words → AreDistinct words → AreSpacedWords (words_line words) words
line_spaced [] each distinct = inr (refl, refl)
line_spaced (w ∷ ws) each distinct = inl (line_joined w ws each, distinct)

are_words : (text : List ℕ) (v : List (List ℕ) × Unit {0}) → IsWordsText text v → KindText WordsForm (words_value v) text
are_words text v (inl h) =
    let k = spaced_line h.front v.0 h.begins in
    record {
      lines = h.front ∷ [];
      spelled = record { x = v.0; value = refl; spelled = record { each = k.0; distinct = k.1; lines_are = inl (ap (λ line. line ∷ []) k.2) } };
      text_is = rw h.ends at h.whole;
    }
are_words text v (inr h) = rw h.1 (record {
  lines = [];
  spelled = record { x = []; value = refl; spelled = record { each = All-nil IsControllerWord; distinct = tt; lines_are = inr (refl, refl) } };
  text_is = h.0;
})

of_words : (text : List ℕ) (words : List (List ℕ)) (lines : List (List ℕ)) → AreWords words lines → text ≡ unlines lines → IsWordsText text (words, tt)
of_words text words lines h e = of_lines h.lines_are
  where
    of_lines : (lines ≡ words_line words ∷ []) ⊎ ((words ≡ []) × (lines ≡ [])) → IsWordsText text (words, tt)
    of_lines (inl k) = inl (record { front = words_line words; back = 10 ∷ []; whole = e ∙ ap unlines k; begins = line_spaced words h.each h.distinct; ends = refl })
    of_lines (inr k) = inr (e ∙ ap unlines k.1, ap (λ ws. (ws, tt)) k.0)

-- The words and their newline, or no byte, turned into the file's value.
pub words_is : (text : List ℕ) (v : Value) → IsMappedText IsWordsText words_value text v ↔ KindText WordsForm v text
words_is text v = (
  λ h. (let k = are_words text h.0 h.1 in rw h.2 at k),
  λ h. ((h.spelled.x, tt), of_words text h.spelled.x h.lines h.spelled.spelled h.text_is, sym h.spelled.value),
)
