use Rattle.std.proofs.Common.{ℕ, ◌<◌, []}
use Rattle.cg_text.specs.Texts.{Next, TextOf}
use Rattle.cg_line.proofs.text.goes_on.Given as goal

-- No byte below the number may come next.
abbrev pub invariant-loop-number : goal.invariant-loop-number
invariant-loop-number g l = (byte : ℕ) → byte < l.number → Next (TextOf (g.T.Token.means l.text)) [] byte → ⊥
