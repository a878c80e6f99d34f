use Rattle.cg_tree.specs.RowLaws.{no_entries, broken_by_two_rules, root_may, not_there, threaded_root, no_valid_domain, bare_above_root, with_each}
use Rattle.cg_tree.proofs.rows.finding_rows.Goals as goal

pub returns-clause-no_entries : goal.returns-clause-no_entries
returns-clause-no_entries c = no_entries

pub returns-clause-broken_by_two : goal.returns-clause-broken_by_two
returns-clause-broken_by_two c = broken_by_two_rules

pub returns-clause-root_with_processes : goal.returns-clause-root_with_processes
returns-clause-root_with_processes c = root_may

pub returns-clause-not_available : goal.returns-clause-not_available
returns-clause-not_available c = not_there

pub returns-clause-threaded_domain : goal.returns-clause-threaded_domain
returns-clause-threaded_domain c = threaded_root

pub returns-clause-domain_invalid : goal.returns-clause-domain_invalid
returns-clause-domain_invalid c = no_valid_domain

pub returns-clause-root_beside_bare : goal.returns-clause-root_beside_bare
returns-clause-root_beside_bare c = bare_above_root

pub returns-clause-twice_the_same : goal.returns-clause-twice_the_same
returns-clause-twice_the_same c = with_each
