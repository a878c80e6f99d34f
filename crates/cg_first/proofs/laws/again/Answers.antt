use Rattle.cg_first.proofs.Again.{told_are_all, told_are_first, none_left}
use Rattle.cg_first.proofs.laws.again.Goals as goal

pub returns-clause-all : goal.returns-clause-all
returns-clause-all c profile = told_are_all profile

pub returns-clause-first : goal.returns-clause-first
returns-clause-first c profile = told_are_first profile

pub returns-clause-none : goal.returns-clause-none
returns-clause-none c profile = none_left profile
