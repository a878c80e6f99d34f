-- Streams that come in pieces.
use Rattle.std.specs.Prelude.{ℕ, List, ◌++◌, flat_map}
use Rattle.std.specs.Borrow.{Bor}
use Rattle.cg_snap.specs.Course.{Stream}
use Rattle.cg_snap.specs.Decode.{IsStreamFault}
use Rattle.cg_snap.specs.declared.decode.StreamFault.{StreamFault}
use Rattle.cg_snap.specs.declared.limits.Limits.{Limits}

-- The bytes of the pieces, one after another.
abbrev pub joined : List (Bor (List ℕ)) → List ℕ
joined pieces = flat_map (λ piece. piece.now) pieces

-- Every stream that begins with these bytes has this fault.
abbrev pub EndsStream : {R Part : Type 0} → Stream R Part → Limits → List ℕ → StreamFault → Type 0
EndsStream stream limits bytes fault = (more : List ℕ) → IsStreamFault stream.language stream.breaks stream.many limits (bytes ++ more) fault
