use Rattle.cg_program.proofs.Builds.{read_some, read_none}
use Rattle.clap.proofs.WalkLemmas.{one_text-rows}
use Rattle.cg_program.proofs.words.number_at.Goals as goal

pub returns-in-Some : goal.returns-in-Some
returns-in-Some c = rw (← one_text-rows _ _) (read_some c.args.given _ _ c.in-Some.ensures.none (λ t e. (c.in-Some.ensures.value t e).0))

pub returns-in-None : goal.returns-in-None
returns-in-None c = rw (← one_text-rows _ _) (read_none c.args.given _ (λ t e. (c.in-None.ensures.value t e).1.0))
