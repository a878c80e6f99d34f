use Rattle.cg_text.proofs.list.StrictListText.new.Goals as goal

pub invariant_of-result : goal.invariant_of-result
invariant_of-result c = record { sound = λ rest all h. ((c.new.ensures.spells.is rest all).0 h).0 }
