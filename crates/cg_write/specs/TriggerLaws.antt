-- What holds of the lines of pressure triggers.
use Rattle.std.proofs.Common.{◌≡◌, ℕ, ◌↔◌, Bool, true, false, List, [], ◌∷◌, refl, subst, codes}
use Rattle.cg_text.specs.Keyword.{text_of}
use Rattle.cg_text.specs.declared.keyword.Keyword.TheVariants as word
use Rattle.cg_text.specs.declared.trigger.Times.{Times}
use Rattle.cg_join.specs.ApartLaws.{label_apart}
use Rattle.cg_join.specs.Composites.{IsSpaced}
use Rattle.cg_join.specs.CutLaws.{parts_is}
use Rattle.cg_join.specs.DisjointLaws.{fixed_disjoint}
use Rattle.cg_join.specs.LackingLaws.{concat_lacking, either_lacking, fixed_lacking, keyword_lacking, times_lacking}
use Rattle.cg_join.specs.Spelling.{Apart, Disjoint, IsMappedText}
use Rattle.cg_join.specs.TextBytes.{IsFixed, Lacking}
use Rattle.cg_join.specs.declared.choice.Either.TheVariants.{Left, Right}
use Rattle.cg_value.specs.WriteLine.{IsTrigger, pressure_word}
use Rattle.cg_write.specs.Texts.{AreSomeTimes, IsTasksWord, IsThreshold, OneOfTwo}
use Rattle.cg_write.specs.Mapped.{is_full, threshold_of}

tasks_to : (text : List ℕ) (v : OneOfTwo) → IsTasksWord text v → text ≡ pressure_word (is_full v)
tasks_to text (Left u) h = h
tasks_to text (Right u) h = h

tasks_from : (full : Bool) → IsMappedText IsTasksWord is_full (pressure_word full) full
tasks_from true = (Right tt, refl, refl)
tasks_from false = (Left tt, refl, refl)

-- The words and the times, turned into a trigger's.
pub trigger_is : (text : List ℕ) (x : Bool × Times) → IsMappedText IsThreshold threshold_of text x ↔ IsTrigger x text
trigger_is text x = (
  λ h. (let k = (parts_is (codes " ") AreSomeTimes IsTasksWord text h.0).0 h.1 in
      let front : k.0 ≡ pressure_word (is_full h.0.0) = tasks_to k.0 h.0.0 k.3 in
      let made : IsTrigger (threshold_of h.0) text = (k.1, (rw front at k.2), k.4) in
      subst (λ (y : Bool × Times). IsTrigger y text) h.2 made),
  λ h. (let tasks = tasks_from x.0 in (
    (tasks.0, (tt, x.1)),
    (parts_is (codes " ") AreSomeTimes IsTasksWord text (tasks.0, (tt, x.1))).1 (pressure_word x.0, h.0, h.1, tasks.1, h.2),
    (rw tasks.2 refl),
  )),
)

pub some_not_full : Disjoint (IsFixed (text_of word.Some)) (IsFixed (text_of word.Full))
some_not_full = fixed_disjoint (text_of word.Some) (text_of word.Full) refl

pub tasks_apart : Apart IsTasksWord (IsSpaced AreSomeTimes)
tasks_apart = label_apart (either_lacking (fixed_lacking 32 (text_of word.Some) refl) (fixed_lacking 32 (text_of word.Full) refl))

pub threshold_lacking : Lacking IsThreshold 10
threshold_lacking = concat_lacking (either_lacking (keyword_lacking word.Some) (keyword_lacking word.Full)) (concat_lacking (fixed_lacking 10 (32 ∷ []) refl) times_lacking)
