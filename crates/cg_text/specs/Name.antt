-- Name values (cgroup-v2.rst, io.cost.qos: ctrl; io.cost.model: ctrl and model).
use Rattle.std.specs.Prelude.{ℕ, ◌≤◌, List, [], ◌∷◌}
use Rattle.cg_text.specs.Word.{IsWord}

-- A byte a to z.
abbrev pub IsLower : ℕ → Type 0
IsLower c = (97 ≤ c) × (c ≤ 122)

-- The text is a word whose first byte is a to z.
abbrev pub IsNameValue : List ℕ → Type 0
IsNameValue [] = ⊥
IsNameValue (c ∷ cs) = IsLower c × IsWord (c ∷ cs)
