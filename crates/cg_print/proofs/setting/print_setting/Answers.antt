use Rattle.std.proofs.Common.{◌≡◌, ◌++◌, ◌∷◌, [], ◌∙◌, ap}
use Rattle.cg_value.specs.Print.{print_setting_line, print_setting_of}
use Rattle.cg_value.specs.PrintSettingLaws.{setting_text_prints}
use Rattle.cg_print.proofs.setting.print_setting.Goals as goal

pub returns-clause-in_grammar : goal.returns-clause-in_grammar
returns-clause-in_grammar c kind bounds fits =
    let s = c.args.setting.now in
    let line : c.append_setting.new.text.items ≡ print_setting_line s = c.in_ok-append_setting.ensures ∙ ap (λ l. l ++ print_setting_line s) c.new-text.ensures.items in
    let text : c.append_newline.new.out.items ≡ print_setting_of s = c.in_ok-append_newline.ensures ∙ ap (λ l. l ++ 10 ∷ []) line in
    rw text (setting_text_prints kind s bounds fits)
