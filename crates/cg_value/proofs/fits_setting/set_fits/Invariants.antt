use Rattle.std.proofs.Common.{◌↔◌, drop}
use Rattle.cg_value.specs.Within.{AreRangesWithin}
use Rattle.cg_value.proofs.fits_setting.set_fits.Given as goal

abbrev pub invariant-loop-range : goal.invariant-loop-range
invariant-loop-range l = AreRangesWithin l.most l.range-items ↔ AreRangesWithin l.most (drop l.range-index l.range-items)
