use Rattle.std.proofs.Common.{◌≡◌, ◌++◌, [], ◌∙◌, ap}
use Rattle.cg_value.specs.Print.{print_lines, print_of}
use Rattle.cg_value.specs.PrintLaws.{print_fits}
use Rattle.cg_print.specs.Headed.{headed}
use Rattle.cg_print.specs.JoinedLaws.{headed_none}
use Rattle.cg_print.proofs.file.print_file.Goals as goal

pub returns-clause-in_grammar : goal.returns-clause-in_grammar
returns-clause-in_grammar c kind bounds fits =
    let v = c.args.value.now in
    let text : c.append_value.new.text.items ≡ print_of v = c.in_ok-append_value.ensures ∙ ap (λ l. l ++ headed [] (print_lines v)) c.new-text.ensures.items ∙ headed_none (print_lines v) in
    rw text (print_fits kind v bounds fits)
