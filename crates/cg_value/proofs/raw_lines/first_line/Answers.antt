use Rattle.std.proofs.Common.{◌≡◌, length, get_or, eqb-true, subst}
use Rattle.std.proofs.Math.Seq.{take-length}
use Rattle.cg_text.specs.Texts.{Lacks}
use Rattle.cg_text.specs.PlainLaws.{plain_searched}
use Rattle.cg_value.specs.LinesOfLaws.{cut_at}
use Rattle.cg_value.proofs.raw_lines.first_line.Goals as goal

pub returns-in-Some : goal.returns-in-Some
returns-in-Some c =
    let text = c.args.text.now in
    let found = c.in-Some.ensures in
    let is : get_or text c.in-Some.place 0 ≡ 10 = eqb-true (get_or text c.in-Some.place 0) 10 found.1 in
    rw c.split_at.ensures.front (cut_at text c.split_at.result.1.now c.in-Some.place c.split_at.ensures.back found.0.high is, plain_searched 10 text c.in-Some.place found.0.before)

pub returns-in-None : goal.returns-in-None
returns-in-None c = subst (Lacks 10) (take-length c.args.text.now) (plain_searched 10 c.args.text.now (length c.args.text.now) c.in-None.ensures)
