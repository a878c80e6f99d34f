use Rattle.std.proofs.Common.{refl}
use Rattle.cg_text.specs.Keyword.{text_of}
use Rattle.cg_text.specs.declared.keyword.Keyword.TheVariants.{Root, Isolated}
use Rattle.cg_join.specs.ApartLaws.{lacking_apart}
use Rattle.cg_join.specs.BeginsLaws.{label_begins, maybe_begins_by}
use Rattle.cg_join.specs.DisjointLaws.{fixed_disjoint}
use Rattle.cg_join.specs.LackingLaws.{either_lacking, fixed_lacking}
use Rattle.cg_join.specs.Spelling.{apart_spells, none_spells, choice_spells, sequence_spells}
use Rattle.cg_file.proofs.partition.RootText.new.Goals as goal

pub new-role-requires-clause-apart : goal.new-role-requires-clause-apart
new-role-requires-clause-apart c = none_spells c.new-root.ensures.spells c.new-isolated.ensures.spells (fixed_disjoint (text_of Root) (text_of Isolated) refl)

pub new-requires-2 : goal.new-requires-2
new-requires-2 c =
    let role = choice_spells c.new-root.ensures.spells c.new-isolated.ensures.spells c.new-role.ensures.spells in
    apart_spells role c.new.ensures.spells (lacking_apart (either_lacking (fixed_lacking 32 (text_of Root) refl) (fixed_lacking 32 (text_of Isolated) refl)) (maybe_begins_by (label_begins 32 _)))

pub returns-clause-spells : goal.returns-clause-spells
returns-clause-spells c =
    let role = choice_spells c.new-root.ensures.spells c.new-isolated.ensures.spells c.new-role.ensures.spells in
    let whole = sequence_spells role c.new.ensures.spells c.new-2.ensures.spells in
    record { is = whole.is }
