use Rattle.std.proofs.Common.{◌≡◌, false, take}
use Rattle.std.specs.List.{list_any}
use Rattle.cg_tree.specs.Find.{is_domain}
use Rattle.cg_tree.proofs.find.has_domain.Given as goal

abbrev pub invariant-loop-file : goal.invariant-loop-file
invariant-loop-file l = list_any is_domain (take l.file-index l.types) ≡ false
