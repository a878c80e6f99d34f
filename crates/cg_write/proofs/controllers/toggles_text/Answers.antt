use Rattle.cg_write.specs.ControllersLaws.{toggle_stops}
use Rattle.cg_write.specs.ToggleLaws.{toggle_filled}
use Rattle.cg_write.proofs.controllers.toggles_text.Goals as goal

pub new-requires-2-clause-stops : goal.new-requires-2-clause-stops
new-requires-2-clause-stops c = toggle_stops

pub new-requires-2-clause-filled : goal.new-requires-2-clause-filled
new-requires-2-clause-filled c = toggle_filled
