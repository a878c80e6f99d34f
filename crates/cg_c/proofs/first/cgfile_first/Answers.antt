use Rattle.std.proofs.Common.{◌≡◌, ◌∙◌, Err, Ok, rules, sym, subst}
use Rattle.cg_snap.specs.declared.decode.StreamFault.TheVariants.{Stopped}
use Rattle.cg_snap.specs.declared.stop.Stop.TheVariants.{Refused}
use Rattle.cg_snap.specs.declared.stop.Why.{Why}
use Rattle.cg_c.specs.First.{IsAnswer, IsStopped}
use Rattle.cg_c.proofs.Firsts.{in_profile, of_long, of_put}
use Rattle.cg_c.proofs.first.cgfile_first.Goals as goal

pub returns-in-Err-Stopped-Refused-clause-refused : goal.returns-in-Err-Stopped-Refused-clause-refused
returns-in-Err-Stopped-Refused-clause-refused c one =
    let fault = c.in-Err-Stopped-Refused.field-0-is in
    let stop = c.in-Err-Stopped-Refused.field-0-0-is in
    let is : c.in-Err-Stopped-Refused.field-0 ≡ Stopped (Refused c.in-Err-Stopped-Refused.place c.in-Err-Stopped-Refused.field-0-0-1) = cc in
    in_profile c.args.profile c.in-Some.profile (sym c.in-Some.is ∙ c.profile_of.ensures)
    (λ p. (why : Why) × IsStopped p c.args.bytes.now c.args.is_end (Refused c.in-Err-Stopped-Refused.place why))
    (c.in-Err-Stopped-Refused.field-0-0-1, subst (λ f. IsAnswer c.in-Some.profile c.args.bytes.now c.args.is_end c.args.is_json (Err f)) is c.in-Err-Stopped-Refused.ensures)

pub returns-then-put-clause-done : goal.returns-then-put-clause-done
returns-then-put-clause-done c zero = of_put c.args.profile c.in-Some.profile (sym c.in-Some.is ∙ c.profile_of.ensures)
    c.args.bytes.now c.args.is_end c.args.is_json c.in-Ok-Text.text.items c.in-Ok-Text.count c.in-Ok-Text.path_count
    (subst (λ a. IsAnswer c.in-Some.profile c.args.bytes.now c.args.is_end c.args.is_json (Ok a)) c.in-Ok-Text.field-0-is c.in-Ok-Text.ensures)
    _ _ _ (search rules) (search rules)

pub returns-clause-no_room : goal.returns-clause-no_room
returns-clause-no_room c four = of_long c.args.profile c.in-Some.profile (sym c.in-Some.is ∙ c.profile_of.ensures)
    c.args.bytes.now c.args.is_end c.args.is_json c.in-Ok-Text.text.items c.in-Ok-Text.count c.in-Ok-Text.path_count
    (subst (λ a. IsAnswer c.in-Some.profile c.args.bytes.now c.args.is_end c.args.is_json (Ok a)) c.in-Ok-Text.field-0-is c.in-Ok-Text.ensures)
    _ _ (search rules) (search rules)
