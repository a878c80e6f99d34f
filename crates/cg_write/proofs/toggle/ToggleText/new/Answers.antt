use Rattle.cg_join.specs.Spelling.{mapped_spells, sequence_spells, spells_as}
use Rattle.cg_write.specs.ToggleLaws.{toggle_is}
use Rattle.cg_write.specs.Mapped.{toggle_of}
use Rattle.cg_write.proofs.toggle.ToggleText.new.Goals as goal

pub returns-clause-spells : goal.returns-clause-spells
returns-clause-spells c =
    let parts = spells_as (mapped_spells toggle_of (sequence_spells c.sign_text.ensures.spells c.new-name.ensures.spells c.new.ensures.spells) c.new-2.ensures.spells) toggle_is in
    record { is = parts.is }
