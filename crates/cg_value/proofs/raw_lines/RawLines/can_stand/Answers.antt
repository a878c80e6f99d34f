use Rattle.std.proofs.Common.{subst}
use Rattle.std.proofs.lemmas.Bool.{not-true, not_from_false}
use Rattle.cg_value.specs.LinesOfLaws.{lines_no_nul, raw_has_lines}
use Rattle.cg_value.specs.RawLines.{HasNoNul}
use Rattle.cg_value.proofs.raw_lines.RawLines.can_stand.Goals as goal

pub returns : goal.returns
returns c = (
  λ e. raw_has_lines c.args.self.now (subst HasNoNul c.text.ensures.text (c.has_nul.ensures.0 (not-true c.has_nul.result e))) c.text.ensures.plain,
  λ h. not_from_false c.has_nul.result (c.has_nul.ensures.1 (rw c.text.ensures.text (lines_no_nul c.args.self.now h))),
)
