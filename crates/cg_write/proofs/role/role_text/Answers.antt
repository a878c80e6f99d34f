use Rattle.cg_join.specs.Spelling.{choice_spells, none_spells}
use Rattle.cg_write.specs.RoleLaws.{member_no_root, root_not_isolated}
use Rattle.cg_write.proofs.role.role_text.Goals as goal

pub new-roots-requires-clause-apart : goal.new-roots-requires-clause-apart
new-roots-requires-clause-apart c = none_spells c.new-root.ensures.spells c.new-isolated.ensures.spells root_not_isolated

pub new-requires-clause-apart : goal.new-requires-clause-apart
new-requires-clause-apart c =
    let roots = choice_spells c.new-root.ensures.spells c.new-isolated.ensures.spells c.new-roots.ensures.spells in
    none_spells c.new-member.ensures.spells roots member_no_root

pub returns-clause-spells : goal.returns-clause-spells
returns-clause-spells c =
    let roots = choice_spells c.new-root.ensures.spells c.new-isolated.ensures.spells c.new-roots.ensures.spells in
    choice_spells c.new-member.ensures.spells roots c.new.ensures.spells
