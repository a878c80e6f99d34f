use Rattle.std.proofs.Common.{◌∙◌, append_assoc}
use Rattle.std.proofs.lemmas.Result.{IfOk-weaker}
use Rattle.cg_json.specs.CompactLaws.{array_text}
use Rattle.cg_json.proofs.compact.append_array.Goals as goal

pub returns : goal.returns
returns g c =
    rw (array_text g.T.Json.tree_of c.args.items.now) (IfOk-weaker c.append_byte-2.result _ _
    (λ u h. h ∙ rw (c.in_ok-append_joined.ensures, c.in_ok-append_byte.ensures) (simp append_assoc)) c.append_byte-2.ensures)
