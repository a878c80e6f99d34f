use Rattle.cg_json.specs.ValueLaws.{word_is}
use Rattle.cg_json.proofs.laws.word_of_kind.Goals as goal

pub returns : goal.returns
returns c = word_is
