use Rattle.std.proofs.Common.{◌∙◌, ap}
use Rattle.serde_json.specs.Written.{has_float}
use Rattle.cg_json.specs.CompactLaws.{plain_utf8}
use Rattle.cg_json.specs.JsonLaws.{text_is_string, text_plain}
use Rattle.cg_json.proofs.text.append_text.Goals as goal

pub returns-then-is_plain : goal.returns-then-is_plain
returns-then-is_plain c =
    rw (text_is_string c.args.bytes.now (plain_utf8 c.args.bytes.now (c.is_plain.ensures c.if-is_plain.true))) c.append_plain.ensures

pub append_tree-requires : goal.append_tree-requires
append_tree-requires c = ap has_float c.in_ok-tree.ensures ∙ text_plain c.args.bytes.now
