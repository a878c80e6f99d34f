use Rattle.std.proofs.Common.{◌↔◌, IsTrue, All, rules}
use Rattle.cg_value.specs.SpelledLaws.{HasText, lines_text}
use Rattle.cg_value.proofs.spelled.are_spelled.Goals as goal

pub returns : goal.returns
returns g c =
    let all : IsTrue c.all.result ↔ All (λ part. HasText (g.T.Spelled.spells part)) c.args.parts.now = search rules in
    let lines = lines_text g.T.Spelled.spells c.args.parts.now in
    (λ e. lines.0 (all.0 e), λ h. all.1 (lines.1 h))
