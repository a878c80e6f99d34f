use Rattle.std.proofs.Common.{◌≡◌, ◌∙◌, ap, codes, rules, true, false}
use Rattle.std.specs.Str.{bytes_eq}
use Rattle.clap.specs.Words.{found_of}
use Rattle.clap.proofs.WalkLemmas.{first_value-rows}
use Rattle.cg_program.specs.Words.{profile_named}
use Rattle.cg_program.proofs.Profiles.{is_two, is_kernel, is_one}
use Rattle.cg_program.proofs.words.profile_at.Goals as goal

pub returns-then-eq : goal.returns-then-eq
returns-then-eq c =
    let same = c.in-Some.ensures ∙ first_value-rows (found_of c.args.matches.now) (codes "profile") in
    let two : bytes_eq c.in-Some.name.now (codes "2") ≡ true = search rules in
    is_two c.args.given _ _ two same

pub returns-then-eq-2 : goal.returns-then-eq-2
returns-then-eq-2 c =
    let same = c.in-Some.ensures ∙ first_value-rows (found_of c.args.matches.now) (codes "profile") in
    let two : bytes_eq c.in-Some.name.now (codes "2") ≡ false = search rules in
    let kernel : bytes_eq c.in-Some.name.now (codes "kernel") ≡ true = search rules in
    is_kernel c.args.given _ _ two kernel same

pub returns-else-eq-2 : goal.returns-else-eq-2
returns-else-eq-2 c =
    let same = c.in-Some.ensures ∙ first_value-rows (found_of c.args.matches.now) (codes "profile") in
    let two : bytes_eq c.in-Some.name.now (codes "2") ≡ false = search rules in
    let kernel : bytes_eq c.in-Some.name.now (codes "kernel") ≡ false = search rules in
    is_one c.args.given _ _ two kernel same

pub returns-in-None : goal.returns-in-None
returns-in-None c = ap (profile_named c.args.given) (c.in-None.ensures ∙ first_value-rows (found_of c.args.matches.now) (codes "profile"))
