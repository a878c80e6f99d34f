-- What holds of the lines of limits that are sizes.
use Rattle.std.proofs.Common.{ℕ, ◌↔◌, List, refl, arith}
use Rattle.cg_text.specs.Keyword.{text_of}
use Rattle.cg_text.specs.declared.keyword.Keyword.TheVariants as word
use Rattle.cg_text.specs.declared.values.Limit.{Limit}
use Rattle.cg_text.specs.declared.values.Limit.TheVariants.{Max, At}
use Rattle.cg_join.specs.BeginsLaws.{fixed_begins, size_begins}
use Rattle.cg_join.specs.DisjointLaws.{digits_disjoint}
use Rattle.cg_join.specs.FilledLaws.{fixed_filled}
use Rattle.cg_join.specs.LackingLaws.{either_lacking, keyword_lacking, size_lacking}
use Rattle.cg_join.specs.LimitState.{limit_of}
use Rattle.cg_join.specs.Spelling.{Disjoint, IsMappedText}
use Rattle.cg_join.specs.TextBytes.{IsFixed, Lacking}
use Rattle.cg_join.specs.declared.choice.Either.{Either}
use Rattle.cg_join.specs.declared.choice.Either.TheVariants.{Left, Right}
use Rattle.cg_value.specs.WriteLine.{IsSizeLimit}
use Rattle.cg_write.specs.Texts.{IsASize, IsSizeOrMax}

size_limit_from : (text : List ℕ) (x : Either ℕ (Unit {0})) → IsSizeOrMax text x → IsSizeLimit (limit_of x) text
size_limit_from text (Left n) h = h
size_limit_from text (Right u) h = h

size_limit_to : (text : List ℕ) (v : Limit) → IsSizeLimit v text → IsMappedText IsSizeOrMax limit_of text v
size_limit_to text Max h = (Right tt, h, refl)
size_limit_to text (At n) h = (Left n, h, refl)

-- The two alternatives, turned into a limit.
pub size_limit_is : (text : List ℕ) (v : Limit) → IsMappedText IsSizeOrMax limit_of text v ↔ IsSizeLimit v text
size_limit_is text v = (λ h. (let k = size_limit_from text h.0 h.1 in rw h.2 at k), λ h. size_limit_to text v h)

max_no_size : Disjoint (IsFixed (text_of word.Max)) IsASize
max_no_size = digits_disjoint (fixed_filled 109 _) (fixed_begins 109 _) size_begins (λ h k. omega (arith, h, k))

pub size_no_max : Disjoint IsASize (IsFixed (text_of word.Max))
size_no_max text n u h k = max_no_size text u n k h

pub size_limit_lacking : Lacking IsSizeOrMax 10
size_limit_lacking = either_lacking (size_lacking 10 (omega arith)) (keyword_lacking word.Max)
