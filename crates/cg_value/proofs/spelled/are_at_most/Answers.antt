use Rattle.std.proofs.Common.{◌↔◌, IsTrue, All, rules}
use Rattle.cg_text.specs.Hundredths.{IsHundredths}
use Rattle.cg_text.specs.declared.hundredths.Spelling.TheVariants.{Read}
use Rattle.cg_value.specs.SpelledLaws.{HasText, lines_text}
use Rattle.cg_value.proofs.spelled.are_at_most.Goals as goal

pub returns : goal.returns
returns c =
    let all : IsTrue c.all.result ↔ All (λ number. HasText (IsHundredths Read c.args.most number)) c.args.numbers.now = search rules in
    let lines = lines_text (IsHundredths Read c.args.most) c.args.numbers.now in
    (λ e. lines.0 (all.0 e), λ h. all.1 (lines.1 h))
