use Rattle.std.proofs.Common.{refl}
use Rattle.std.proofs.lemmas.Result.{IfOk-weaker}
use Rattle.cg_program.proofs.Builds.{arg_app, arg_local}
use Rattle.cg_program.proofs.command_line.optioned.Goals as goal

pub returns-clause-app : goal.returns-clause-app
returns-clause-app c =
    let one = arg_app _ _ _ _ _ c.in_ok-arg.ensures refl c.profile_option.ensures.rule c.profile_option.ensures.local in
    let two = arg_app _ _ _ _ _ c.in_ok-arg-2.ensures one c.count_option.ensures.rule c.count_option.ensures.local in
    let three = arg_app _ _ _ _ _ c.in_ok-arg-3.ensures two c.count_option-2.ensures.rule c.count_option-2.ensures.local in
    let four = arg_app _ _ _ _ _ c.in_ok-arg-4.ensures three c.count_option-3.ensures.rule c.count_option-3.ensures.local in
    let five = arg_app _ _ _ _ _ c.in_ok-arg-5.ensures four c.flag_option.ensures.rule c.flag_option.ensures.local in
    IfOk-weaker c.arg-6.result _ _ (λ r h. arg_app _ _ _ _ _ h five c.flag_option-2.ensures.rule c.flag_option-2.ensures.local) c.arg-6.ensures

pub returns-clause-local : goal.returns-clause-local
returns-clause-local c none =
    let one = arg_local _ _ _ c.in_ok-arg.ensures none c.profile_option.ensures.local in
    let two = arg_local _ _ _ c.in_ok-arg-2.ensures one c.count_option.ensures.local in
    let three = arg_local _ _ _ c.in_ok-arg-3.ensures two c.count_option-2.ensures.local in
    let four = arg_local _ _ _ c.in_ok-arg-4.ensures three c.count_option-3.ensures.local in
    let five = arg_local _ _ _ c.in_ok-arg-5.ensures four c.flag_option.ensures.local in
    IfOk-weaker c.arg-6.result _ _ (λ r h. arg_local _ _ _ h five c.flag_option-2.ensures.local) c.arg-6.ensures
