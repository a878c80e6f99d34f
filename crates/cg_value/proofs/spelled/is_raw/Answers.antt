use Rattle.std.proofs.Common.{◌≢◌, ◌↔◌, IsTrue, All, rules, arith}
use Rattle.cg_value.specs.SpelledLaws.{raw_line}
use Rattle.cg_value.proofs.spelled.is_raw.Goals as goal

pub returns : goal.returns
returns c =
    let all : IsTrue c.all.result ↔ All (λ b. (b ≢ 0) × (b ≢ 10)) c.args.bytes.now = search rules in
    let line = raw_line c.args.bytes.now (λ i. omega (arith, c.type_inv.bytes i)) in
    (λ e. line.0 (all.0 e), λ h. all.1 (line.1 h))
