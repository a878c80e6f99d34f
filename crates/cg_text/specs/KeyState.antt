-- Where the bytes of a key lie.
use Rattle.std.specs.Prelude.{◌≡◌, ℕ, ◌≤◌, List, take}
use Rattle.cg_text.specs.Hash.{hash_of}
use Rattle.cg_text.specs.declared.key.Store.{Store}
use Rattle.cg_text.specs.declared.key.Store.TheVariants.{Short, Long}

abbrev pub stored : Store → List ℕ
stored (Short len hash bytes) = take len bytes
stored (Long hash bytes) = bytes.items

-- So many lie there, and their hash with them.
abbrev pub IsStored : Store → Type 0
IsStored (Short len hash bytes) = (len ≤ 24) × (hash ≡ hash_of (take len bytes))
IsStored (Long hash bytes) = hash ≡ hash_of bytes.items
