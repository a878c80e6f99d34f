use Rattle.cg_value.specs.PrintLaws.{text_is_print, one_read_text, no_words_text}
use Rattle.cg_value.proofs.laws.text_is_print.Goals as goal

pub returns-clause-printed : goal.returns-clause-printed
returns-clause-printed c = text_is_print

pub returns-clause-one : goal.returns-clause-one
returns-clause-one c = one_read_text

pub returns-clause-no_words : goal.returns-clause-no_words
returns-clause-no_words c = no_words_text
