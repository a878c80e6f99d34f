use Rattle.std.proofs.Common.{w64, rules, FitsSigned}
use Rattle.std.proofs.lemmas.Int.{to_z-of_z}
use Rattle.cg_index.specs.Cells.{item_of}
use Rattle.cg_value.specs.FitsLaws.{signed_fits, flat_fits, weights_fit}
use Rattle.cg_value.specs.ReadLine.{IsFlatLine}
use Rattle.cg_value.specs.SpelledLaws.{mapped_text}
use Rattle.cg_value.proofs.value.Value.fits.Goals as goal

pub returns-in-Signed-Signed : goal.returns-in-Signed-Signed
returns-in-Signed-Signed c =
    let arm = c.in-Signed-Signed in
    let fit = signed_fits arm.lo arm.hi arm.number in
    let low : FitsSigned w64 arm.lo = search rules in
    let high : FitsSigned w64 arm.hi = search rules in
    let number : FitsSigned w64 arm.number = search rules in
    let within = simp to_z-of_z at c.is_between.ensures in
    rw (arm.is-1, ← arm.ensures.form) (λ e. fit.0 (within.0 e), λ h. within.1 (fit.1 h))

pub returns-in-Flat-Flat : goal.returns-in-Flat-Flat
returns-in-Flat-Flat c =
    let arm = c.in-Flat-Flat in
    let fit = flat_fits arm.flat c.pairs.ensures.distinct in
    let lines = rw c.pairs.ensures.pairs at (mapped_text item_of IsFlatLine c.pairs.result.now) in
    rw (arm.is-1, ← c.form.ensures.form, arm.is-0) (λ e. fit.0 (lines.0 (c.are_spelled.ensures.0 e)), λ f. c.are_spelled.ensures.1 (lines.1 (fit.1 f)))

pub returns-then-is_within : goal.returns-then-is_within
returns-then-is_within c =
    let arm = c.in-DeviceWeights-DeviceWeights in
    let fit = weights_fit arm.most arm.default arm.kernel arm.lines in
    let lines = rw c.as_slice-then-is_within.ensures at c.are_weights.ensures in
    rw (arm.is-1, ← c.form.ensures.form, arm.is-0) (λ e. fit.0 (c.is_within-in-DeviceWeights-DeviceWeights.ensures.text.0 c.if-is_within.true, lines.0 e), λ f. lines.1 (fit.1 f).1)
