use Rattle.std.proofs.Common.{◌≡◌, take}
use Rattle.std.specs.List.{flat_map}
use Rattle.cg_tree.specs.FindLaws.{looked_up}
use Rattle.cg_tree.proofs.find.findings.Given as goal

abbrev pub invariant-loop-control : goal.invariant-loop-control
invariant-loop-control l = l.found.items ≡ flat_map (looked_up l.hierarchy) (take l.control-index l.control-items)
