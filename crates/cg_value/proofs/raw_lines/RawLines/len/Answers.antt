use Rattle.std.proofs.Common.{inl, arith}
use Rattle.cg_value.proofs.raw_lines.RawLines.len.Goals as goal

pub count-requires-clause-fits : goal.count-requires-clause-fits
count-requires-clause-fits c = inl (omega (arith, c.lines.ensures.few))
