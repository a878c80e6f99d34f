-- What a run that checks a snapshot writes: a line for each finding, once the whole snapshot was read.
use Rattle.std.specs.Prelude.{◌≡◌, ℕ, ◌⊎◌, List, [], ◌∷◌, ◌++◌, length, map, Option, Some, None}
use Rattle.std.specs.List.{slice_get}
use Rattle.cg_value.specs.Entry.{EntryData}
use Rattle.cg_value.specs.declared.value.Value.{Value}
use Rattle.cg_snap.specs.declared.stop.Stop.{Stop}
use Rattle.cg_tree.specs.Find.{find, words_of}
use Rattle.cg_tree.specs.Finding.{rule_word}
use Rattle.cg_tree.specs.declared.finding.Finding.{Finding}
use Rattle.cg_outcome.specs.Input.{Reading}
use Rattle.cg_outcome.specs.Outcome.{checked}
use Rattle.cg_run.specs.Stream.{IsStreamDone, IsStreamRight, IsStreamStarved}
use Rattle.cg_outcome.specs.declared.outcome.Outcome.{Outcome}
use Rattle.cg_outcome.specs.declared.outcome.Outcome.TheVariants as out

abbrev pub text_or_none : Option (List ℕ) → List ℕ
text_or_none None = []
text_or_none (Some text) = text

-- The word at this place of those that a file holds.
abbrev pub word_at : Value → ℕ → List ℕ
word_at value place = text_or_none (slice_get (words_of value) place)

-- The path of a cgroup.subtree_control, a space and its word at this place.
abbrev pub control_text : Option EntryData → ℕ → List ℕ
control_text None place = []
control_text (Some e) place = e.path ++ 32 ∷ word_at e.value place

-- The line of a finding: the rule, the path and the word, with a space between.
abbrev pub finding_line : List EntryData → Finding → List ℕ
finding_line es f = rule_word f.rule ++ 32 ∷ (control_text (slice_get es f.at) f.word ++ 10 ∷ [])

-- The lines of all that the entries break.
abbrev pub finding_lines : List EntryData → List (List ℕ)
finding_lines es = map (finding_line es) (find es)

-- How a run ends that tells these.
abbrev pub found_outcome : List EntryData → Outcome
found_outcome es = checked (length (finding_lines es)) 0

-- Nothing is written before the end.
abbrev pub HasNoParts : List ℕ → List (List ℕ) → Type 0
HasNoParts bytes parts = parts ≡ []

-- Whole, Closes, Unstopped and StopsBy are those of what is right for a stream.
module _ (Whole : List ℕ → List (List ℕ) → Outcome → Type 0) (Closes : List ℕ → List (List ℕ) → Type 0) (Unstopped : List ℕ → Type 0) (StopsBy : List ℕ → Stop → Type 0) where
  -- Memory was refused while the stream was read; or, once the whole of it was, for what is written then: the parts are first
  -- ones of this.
  abbrev pub IsCheckStarved : Reading → List (List ℕ) → Type 0
  IsCheckStarved r parts = IsStreamStarved Whole Closes Unstopped StopsBy r parts
      ⊎ ((more : List (List ℕ)) × (o : Outcome) × IsStreamDone Whole Closes Unstopped StopsBy r o (parts ++ more))

  -- The outcome that is right where parts are written at the end of the stream, which tell what is wrong.
  abbrev pub IsCheckRight : Reading → Outcome → List (List ℕ) → Type 0
  IsCheckRight r out.OutOfMemory parts = IsCheckStarved r parts
  IsCheckRight r o parts = IsStreamRight Whole Closes Unstopped StopsBy r o parts
