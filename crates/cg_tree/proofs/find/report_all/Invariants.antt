use Rattle.std.proofs.Common.{◌≡◌, ◌++◌, take}
use Rattle.std.specs.List.{flat_map}
use Rattle.cg_tree.specs.Find.{lacking}
use Rattle.cg_tree.proofs.find.report_all.Given as goal

abbrev pub invariant-loop-other : goal.invariant-loop-other
invariant-loop-other l = l.found.items ≡ l.initial.found.items ++ flat_map (lacking l.rule l.control) (take l.other-index l.others)
