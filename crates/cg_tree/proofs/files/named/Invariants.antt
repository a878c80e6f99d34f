use Rattle.std.proofs.Common.{◌≡◌, take}
use Rattle.cg_tree.specs.Files.{named}
use Rattle.cg_tree.proofs.files.named.Given as goal

abbrev pub invariant-loop-place : goal.invariant-loop-place
invariant-loop-place l = l.files.items ≡ named l.name (take l.place l.entries)
