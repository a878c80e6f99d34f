use Rattle.cg_join.specs.Spelling.{mapped_spells, spells_as}
use Rattle.cg_file.specs.WordsFileLaws.{words_is}
use Rattle.cg_file.specs.WordsMapped.{words_value}
use Rattle.cg_file.proofs.words.WordsFile.new.Goals as goal

pub returns-clause-spells : goal.returns-clause-spells
returns-clause-spells c = let whole = spells_as (mapped_spells words_value c.words_line.ensures.spells c.new.ensures.spells) words_is in record { is = whole.is }
