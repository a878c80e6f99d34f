use Rattle.std.proofs.Common.{◌∙◌, append_assoc}
use Rattle.std.proofs.lemmas.Result.{IfOk-weaker}
use Rattle.cg_json.specs.CompactLaws.{object_text}
use Rattle.cg_json.proofs.compact.append_listed.Goals as goal

pub returns : goal.returns
returns g c =
    rw (object_text g.T.Member.key_of g.T.Json.tree_of c.args.members.now) (IfOk-weaker c.append_byte-2.result _ _
    (λ u h. h ∙ rw (c.in_ok-append_joined_members.ensures, c.in_ok-append_byte.ensures) (simp append_assoc)) c.append_byte-2.ensures)
