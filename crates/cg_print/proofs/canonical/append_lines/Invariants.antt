use Rattle.std.proofs.Common.{◌≡◌, [], ◌∷◌, ◌++◌, take}
use Rattle.std.specs.List.{flat_map}
use Rattle.cg_print.specs.Headed.{headed}
use Rattle.cg_print.proofs.canonical.append_lines.Given as goal

abbrev pub invariant-loop-line : goal.invariant-loop-line
invariant-loop-line g l = l.out.items ≡ l.initial.out.items ++ flat_map (λ x. headed l.head (g.T.Canonical.printed x ∷ [])) (take l.line-index l.lines)
