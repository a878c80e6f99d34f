use Rattle.std.proofs.Common.{◌∙◌, append_assoc}
use Rattle.std.proofs.lemmas.Result.{IfOk-weaker}
use Rattle.cg_json.specs.CompactLaws.{node_stats_text}
use Rattle.cg_json.proofs.keyed.append_node_stats.Goals as goal

pub returns : goal.returns
returns c =
    rw (node_stats_text c.args.total c.args.nodes.now) (IfOk-weaker c.append_byte.result _ _
    (λ u h. h ∙ rw (c.in_ok-append_labelled-2.ensures, c.in_ok-append_labelled.ensures) (simp append_assoc)) c.append_byte.ensures)
