use Rattle.std.proofs.Common.{◌↔◌, IsTrue, All, rules}
use Rattle.cg_text.specs.Decimal.{IsDecimal}
use Rattle.cg_value.specs.SpelledLaws.{HasText, lines_text}
use Rattle.cg_value.proofs.spelled.are_within.Goals as goal

pub returns : goal.returns
returns c =
    let all : IsTrue c.all.result ↔ All (λ number. HasText (IsDecimal c.args.lo c.args.hi number)) c.args.numbers.now = search rules in
    let lines = lines_text (IsDecimal c.args.lo c.args.hi) c.args.numbers.now in
    (λ e. lines.0 (all.0 e), λ h. all.1 (lines.1 h))
