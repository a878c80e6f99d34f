use Rattle.std.proofs.Common.{◌∙◌, append_assoc}
use Rattle.std.proofs.lemmas.Result.{IfOk-weaker}
use Rattle.cg_json.specs.CompactLaws.{cpu_max_text}
use Rattle.cg_json.proofs.cpuset.append_cpu_max.Goals as goal

pub returns : goal.returns
returns c =
    rw (cpu_max_text c.args.quota c.args.period) (IfOk-weaker c.append_byte.result _ _
    (λ u h. h ∙ rw (c.in_ok-append_labelled-2.ensures, c.in_ok-append_labelled.ensures) (simp append_assoc)) c.append_byte.ensures)
