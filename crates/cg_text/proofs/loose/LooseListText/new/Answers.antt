use Rattle.cg_text.specs.LooseLaws.{texts_ranges}
use Rattle.cg_text.proofs.loose.LooseListText.new.Goals as goal

pub invariant_of-result : goal.invariant_of-result
invariant_of-result c = record { sound = λ rest all h. texts_ranges c.args.most all rest ((c.new.ensures.spells.is rest all).0 h) }
