-- Where the record stands that comes.
use Rattle.std.specs.Prelude.{ℕ, List, ◌∷◌, ◌++◌, Bool, true, false}
use Rattle.cg_text.specs.Texts.{Lacks}
use Rattle.cg_snap.specs.Begun.{IsBegun}

-- The path of the record that is begun after p, as far as it came; or, where its NUL came, the whole of it, with a line behind.
abbrev pub IsRecordPlace : (p path : List ℕ) → (in_line : Bool) → Type 0
IsRecordPlace p path false = Lacks 0 path × IsBegun p path
IsRecordPlace p path true = (line : List ℕ) × Lacks 0 path × IsBegun p (path ++ 0 ∷ line)
