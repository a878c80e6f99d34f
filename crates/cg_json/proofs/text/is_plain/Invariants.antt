use Rattle.std.proofs.Common.{take, IsTrue}
use Rattle.cg_json.specs.Compact.{ArePlain}
use Rattle.cg_json.proofs.text.is_plain.Given as goal

abbrev pub invariant-loop-byte : goal.invariant-loop-byte
invariant-loop-byte l = IsTrue l.plain → ArePlain (take l.byte-index l.bytes)
