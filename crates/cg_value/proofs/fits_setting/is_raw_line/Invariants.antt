use Rattle.std.proofs.Common.{◌↔◌, drop}
use Rattle.cg_text.specs.Raw.{IsRawLine}
use Rattle.cg_value.proofs.fits_setting.is_raw_line.Given as goal

abbrev pub invariant-loop-byte : goal.invariant-loop-byte
invariant-loop-byte l = IsRawLine l.bytes ↔ IsRawLine (drop l.byte-index l.bytes)
