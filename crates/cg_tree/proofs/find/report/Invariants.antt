use Rattle.std.proofs.Common.{◌≡◌, ◌++◌, map, take}
use Rattle.cg_index.specs.Cells.{item_of}
use Rattle.cg_tree.specs.FindLaws.{lacked}
use Rattle.cg_tree.proofs.find.report.Given as goal

abbrev pub invariant-loop-word : goal.invariant-loop-word
invariant-loop-word l = l.found.items ≡ l.initial.found.items ++ lacked l.rule l.control l.other (take l.word (map item_of l.cell-items))
