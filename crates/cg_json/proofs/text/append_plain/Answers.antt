use Rattle.std.proofs.Common.{◌∙◌, append_assoc}
use Rattle.cg_json.specs.CompactLaws.{plain_text}
use Rattle.cg_json.proofs.text.append_plain.Goals as goal

pub returns : goal.returns
returns c =
    rw (plain_text c.args.bytes.now c.requires)
    (c.push_reserved-2.ensures.items ∙ rw (c.in_ok-extend_from_slice.ensures.items, c.push_reserved.ensures.items, c.in_ok-try_reserve.ensures.items) (simp append_assoc))
