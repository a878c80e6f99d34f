use Rattle.cg_join.specs.ClassLaws.{class_is}
use Rattle.cg_join.specs.ClassState.{class_of}
use Rattle.cg_join.specs.Spelling.{mapped_spells, spells_as}
use Rattle.cg_join.proofs.class.ClassText.new.Goals as goal

pub returns-clause-spells : goal.returns-clause-spells
returns-clause-spells c =
    let parts = spells_as (mapped_spells class_of c.words.ensures.spells c.new.ensures.spells) class_is in
    record { is = parts.is }
