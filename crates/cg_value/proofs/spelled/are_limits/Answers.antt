use Rattle.std.proofs.Common.{◌↔◌, IsTrue, All, rules}
use Rattle.cg_value.specs.ReadLine.{IsLimitLine}
use Rattle.cg_value.specs.SpelledLaws.{HasText, lines_text}
use Rattle.cg_value.proofs.spelled.are_limits.Goals as goal

pub returns : goal.returns
returns c =
    let all : IsTrue c.all.result ↔ All (λ line. HasText (IsLimitLine c.args.kernel line)) c.args.lines.now = search rules in
    let lines = lines_text (IsLimitLine c.args.kernel) c.args.lines.now in
    (λ e. lines.0 (all.0 e), λ h. all.1 (lines.1 h))
