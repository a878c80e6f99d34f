-- The class of what choices of words spell.
use Rattle.std.specs.Prelude.{List, ℕ}
use Rattle.cg_text.specs.Keyword.{text_of}
use Rattle.cg_text.specs.declared.keyword.Keyword.TheVariants as word
use Rattle.cg_text.specs.declared.values.IoClass.{IoClass}
use Rattle.cg_text.specs.declared.values.IoClass.TheVariants.{NoChange, PromoteToRt, RestrictToBe, Idle, NoneToRt}
use Rattle.cg_join.specs.Spelling.{IsEither}
use Rattle.cg_join.specs.TextBytes.{IsFixed}
use Rattle.cg_join.specs.declared.choice.Either.{Either}
use Rattle.cg_join.specs.declared.choice.Either.TheVariants.{Left, Right}

-- Which of five words.
abbrev pub OneOfFive : Type 0
OneOfFive = Either (Either (Unit {0}) (Unit {0})) (Either (Unit {0}) (Either (Unit {0}) (Unit {0})))

-- The two words that begin alike; the last two; the words that don't begin as the first two do; and all five.
abbrev pub IsNoWord : List ℕ → Either (Unit {0}) (Unit {0}) → Type 0
IsNoWord text v = IsEither (IsFixed (text_of word.NoChange)) (IsFixed (text_of word.NoneToRt)) text v

abbrev pub IsLowWord : List ℕ → Either (Unit {0}) (Unit {0}) → Type 0
IsLowWord text v = IsEither (IsFixed (text_of word.RestrictToBe)) (IsFixed (text_of word.Idle)) text v

abbrev pub IsOtherWord : List ℕ → Either (Unit {0}) (Either (Unit {0}) (Unit {0})) → Type 0
IsOtherWord text v = IsEither (IsFixed (text_of word.PromoteToRt)) IsLowWord text v

abbrev pub IsClassWord : List ℕ → OneOfFive → Type 0
IsClassWord text v = IsEither IsNoWord IsOtherWord text v

abbrev pub class_of : OneOfFive → IoClass
class_of (Left (Left _)) = NoChange
class_of (Left (Right _)) = NoneToRt
class_of (Right (Left _)) = PromoteToRt
class_of (Right (Right (Left _))) = RestrictToBe
class_of (Right (Right (Right _))) = Idle
