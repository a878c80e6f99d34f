use Rattle.std.proofs.Common.{[], Option, unwrap_or, ap, ◌∙◌, codes}
use Rattle.clap.specs.Words.{Text, found_of}
use Rattle.clap.proofs.WalkLemmas.{first_value-rows}
use Rattle.cg_program.proofs.words.name_given.Goals as goal

pub returns-in-Some : goal.returns-in-Some
returns-in-Some c =
    let same = c.in-Some.ensures ∙ first_value-rows (found_of c.args.matches.now) (codes "NAME") in
    c.as_bytes.ensures.value ∙ ap (λ (o : Option Text). unwrap_or o []) same

pub returns-in-None : goal.returns-in-None
returns-in-None c =
    let same = c.in-None.ensures ∙ first_value-rows (found_of c.args.matches.now) (codes "NAME") in
    ap (λ (o : Option Text). unwrap_or o []) same
