use Rattle.cg_join.specs.Spelling.{none_spells, choice_spells, mapped_spells, spells_as}
use Rattle.cg_join.specs.ClampState.{clamp_of}
use Rattle.cg_join.specs.ClampLaws.{clamp_is}
use Rattle.cg_join.specs.MaxLaws.{max_not_hundredths}
use Rattle.cg_join.proofs.clamp.ClampText.new.Goals as goal

pub new-requires-3-clause-apart : goal.new-requires-3-clause-apart
new-requires-3-clause-apart c = none_spells c.new.ensures.spells c.new-2.ensures.spells (λ text u h e k. max_not_hundredths c.args.form 10000 h text e k)

pub returns-clause-spells : goal.returns-clause-spells
returns-clause-spells c =
    let parts = spells_as (mapped_spells clamp_of (choice_spells c.new.ensures.spells c.new-2.ensures.spells c.new-3.ensures.spells) c.new-4.ensures.spells) (clamp_is c.args.form) in
    record { is = parts.is }
