-- What becomes of bytes that are to be a key (cgroup-v2.rst, "Format": the KEY of flat and nested keyed files).
use Rattle.std.specs.Prelude.{◌≡◌, ℕ, List, Ok, Err}
use Rattle.std.specs.declared.result.Result.{Result}
use Rattle.cg_text.specs.Word.{IsWord}
use Rattle.cg_text.specs.declared.key.KeyFault.{KeyFault}
use Rattle.cg_text.specs.declared.key.KeyFault.TheVariants.{BadKey, OutOfMemory}

-- They are the key where they are a word; else they are refused.
abbrev pub IsKeyMade : List ℕ → Result (List ℕ) KeyFault → Type 0
IsKeyMade bytes (Ok key) = (key ≡ bytes) × IsWord bytes
IsKeyMade bytes (Err BadKey) = IsWord bytes → ⊥
IsKeyMade bytes (Err OutOfMemory) = IsWord bytes
