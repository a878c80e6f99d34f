use Rattle.std.proofs.Common.{◌≡◌, [], sym, ◌∙◌, ap, arith}
use Rattle.std.proofs.lemmas.Grind.{common_steps}
use Rattle.cg_print.specs.Headed.{headed}
use Rattle.cg_print.specs.JoinedLaws.{headed_none}
use Rattle.cg_print.proofs.file.append_raw_lines.Goals as goal

pub returns-then-is_empty : goal.returns-then-is_empty
returns-then-is_empty c =
    let lines = c.args.lines.now in
    let none : c.args.head.now ≡ [] = grind (arith, common_steps) in
    let text : headed c.args.head.now lines ≡ c.text.result.now = ap (λ head. headed head lines) none ∙ headed_none lines ∙ sym c.text.ensures.text in
    rw text c.append_bytes.ensures.added
