use Rattle.std.proofs.Common.{◌≡◌, take}
use Rattle.cg_snap.specs.Laws.{print_entries}
use Rattle.cg_snap.proofs.encode.records_of.Given as goal

abbrev pub invariant-loop-entry : goal.invariant-loop-entry
invariant-loop-entry l = l.text.items ≡ print_entries (take l.entry-index l.entries)
