use Rattle.std.proofs.Common.{refl}
use Rattle.cg_join.specs.PairsStateLaws.{completed_from}
use Rattle.cg_join.proofs.pairing.complete_last.Goals as goal

pub returns : goal.returns
returns g c =
    let old = c.args.items.now.items in
    let done = c.change_last.ensures.items in
    let paired = g.F.Pairing.paired in
    completed_from g.F.Pairing.word_of g.F.Pairing.value_of paired g.F.Pairing.has_word g.F.Pairing.has_value
    old done.front c.change_last.new.self.items done.last (paired (g.F.Pairing.word_of done.last) c.args.value)
    c.args.value done.before refl done.after
