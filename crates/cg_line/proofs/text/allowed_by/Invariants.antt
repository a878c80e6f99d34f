use Rattle.std.proofs.Common.{[]}
use Rattle.cg_text.specs.Texts.{TextOf}
use Rattle.cg_line.specs.AllowedLaws.{IsAllowedBelow}
use Rattle.cg_line.proofs.text.allowed_by.Given as goal

abbrev pub invariant-loop-number : goal.invariant-loop-number
invariant-loop-number g l = IsAllowedBelow l.set (TextOf (g.T.Token.means l.text)) [] l.number
