use Rattle.std.proofs.Common.{◌↔◌, All, drop}
use Rattle.cg_text.specs.Word.{IsControllerWord}
use Rattle.cg_value.proofs.fits_setting.toggles_fit.Given as goal

abbrev pub invariant-loop-toggle : goal.invariant-loop-toggle
invariant-loop-toggle l = All (λ t. IsControllerWord t.name) l.toggles ↔ All (λ t. IsControllerWord t.name) (drop l.toggle-index l.toggles)
