use Rattle.clap.proofs.WalkLemmas.{one_text-rows}
use Rattle.cg_program.proofs.Flags.{set_some, set_none}
use Rattle.cg_program.proofs.words.is_used.Goals as goal

pub returns-in-Some : goal.returns-in-Some
returns-in-Some c = rw (← one_text-rows _ _) (set_some _ _ c.in-Some.ensures.none c.in-Some.ensures.value)

pub returns-in-None : goal.returns-in-None
returns-in-None c = rw (← one_text-rows _ _) (set_none _ _ c.in-None.ensures.value)
