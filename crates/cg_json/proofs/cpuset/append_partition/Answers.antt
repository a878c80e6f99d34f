use Rattle.std.proofs.Common.{◌∙◌, append_assoc}
use Rattle.std.proofs.lemmas.Result.{IfOk-weaker}
use Rattle.cg_json.specs.CompactLaws.{valid_text, invalid_text}
use Rattle.cg_json.proofs.cpuset.append_partition.Goals as goal

pub returns-then-valid : goal.returns-then-valid
returns-then-valid c =
    rw (valid_text c.args.role c.args.valid c.args.reason.now c.if-valid.true) (IfOk-weaker c.append_bytes.result _ _
    (λ u h. h ∙ rw (c.in_ok-append_labelled-2.ensures, c.in_ok-append_labelled.ensures) (simp append_assoc)) c.append_bytes.ensures.added)

pub returns-else-valid : goal.returns-else-valid
returns-else-valid c =
    rw (invalid_text c.args.role c.args.valid c.args.reason.now c.if-valid.false) (IfOk-weaker c.append_bytes-else-valid.result _ _
    (λ u h. h ∙ rw (c.in_ok-append_labelled-2.ensures, c.in_ok-append_labelled.ensures) (simp append_assoc)) c.append_bytes-else-valid.ensures.added)
