use Rattle.cg_text.specs.declared.keyword.Keyword.TheVariants.{Some as SomeWord, Full as FullWord}
use Rattle.cg_join.specs.Spelling.{apart_spells, mapped_spells, spells_as}
use Rattle.cg_file.specs.OneOrBothLaws.{differ_spells, filled_spells, one_or_both_spells}
use Rattle.cg_file.specs.PressureFileLaws.{PressureText, line_apart, line_filled, pressure_is, pressure_value, words_differ}
use Rattle.cg_file.proofs.pressure.PressureFile.new.Goals as goal

pub new-requires-clause-apart : goal.new-requires-clause-apart
new-requires-clause-apart c = apart_spells c.new-some.ensures.spells c.new-full.ensures.spells (line_apart SomeWord (PressureText FullWord))

pub new-requires-clause-filled : goal.new-requires-clause-filled
new-requires-clause-filled c = filled_spells c.new-full.ensures.spells (line_filled FullWord)

pub new-requires-clause-differ : goal.new-requires-clause-differ
new-requires-clause-differ c = differ_spells c.new-some.ensures.spells c.new-full.ensures.spells words_differ

pub returns-clause-spells : goal.returns-clause-spells
returns-clause-spells c =
    let both = one_or_both_spells c.new-some.ensures.spells c.new-full.ensures.spells c.new.ensures.spells in
    let whole = spells_as (mapped_spells pressure_value both c.new-2.ensures.spells) pressure_is in
    record { is = whole.is }
