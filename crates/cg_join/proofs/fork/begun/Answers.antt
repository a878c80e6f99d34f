use Rattle.std.proofs.Common.{◌∷◌}
use Rattle.cg_join.specs.ForkLaws.{text_behind}
use Rattle.cg_join.proofs.fork.begun.Goals as goal

pub unreachable-requires : goal.unreachable-requires
unreachable-requires g c =
    let none = rw c.in-Ok-false.field-0-test at c.in-Ok-false.ensures.refused in
    let start = c.args.start.now in
    let text = text_behind (g.S.MakeToken.texts start) c.args.byte c.requires.begins (g.met.S.MakeToken.some_text start) in
    none text.0 text.1 ((c.start-token.ensures.spells.is (c.args.byte ∷ text.0) text.1).1 text.2)
