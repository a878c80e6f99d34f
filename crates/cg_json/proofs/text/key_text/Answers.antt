use Rattle.cg_json.specs.JsonLaws.{utf8_of_word}
use Rattle.cg_json.proofs.text.key_text.Goals as goal

pub unreachable-requires : goal.unreachable-requires
unreachable-requires c = c.in-Err.ensures.cases.0 (rw c.bytes.ensures.bytes (utf8_of_word c.args.key.now c.bytes.ensures.word))
