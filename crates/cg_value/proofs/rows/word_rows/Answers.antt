use Rattle.cg_value.specs.RowLaws.{no_words, no_words_line, no_words_print, two_words, one_key, quoted_key}
use Rattle.cg_value.proofs.rows.word_rows.Goals as goal

pub returns-clause-no_words : goal.returns-clause-no_words
returns-clause-no_words c = no_words

pub returns-clause-no_words_line : goal.returns-clause-no_words_line
returns-clause-no_words_line c = no_words_line

pub returns-clause-no_words_print : goal.returns-clause-no_words_print
returns-clause-no_words_print c = no_words_print

pub returns-clause-two_words : goal.returns-clause-two_words
returns-clause-two_words c = two_words

pub returns-clause-one_key : goal.returns-clause-one_key
returns-clause-one_key c = one_key

pub returns-clause-quoted_key : goal.returns-clause-quoted_key
returns-clause-quoted_key c = quoted_key
