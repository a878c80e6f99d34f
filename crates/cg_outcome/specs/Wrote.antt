-- What a run wrote, or how far its writer came.
use Rattle.std.specs.Prelude.{◌≡◌, ℕ, ◌≤◌, Bool, true, List, [], ◌∷◌, ◌++◌, length, take, Option}
use Rattle.std.specs.Io.KnownBytes.{Appends}
use Rattle.cg_text.specs.Token.{saturated}
use Rattle.cg_outcome.specs.declared.outcome.Outcome.{Outcome}
use Rattle.cg_outcome.specs.declared.outcome.Outcome.TheVariants as out

-- Parts, one behind another.
abbrev pub joined : List (List ℕ) → List ℕ
joined [] = []
joined (part ∷ parts) = part ++ joined parts

-- The writer took the whole text of the outcome that is right; or, where it failed, the first bytes of it.
abbrev pub Wrote : Option (List ℕ) → Option (List ℕ) → Bool → List ℕ → Outcome → Outcome → Type 0
Wrote taken now failed text wanted (out.WriteFault written) = (n : ℕ) × (n ≤ length text) × Appends taken now (take n text) × (written ≡ saturated n) × (failed ≡ true)
Wrote taken now failed text wanted o = (o ≡ wanted) × Appends taken now text

-- A fault of the writer is told only where it has failed.
abbrev pub IsRealFault : Outcome → Bool → Type 0
IsRealFault (out.WriteFault written) failed = failed ≡ true
IsRealFault o failed = Unit {0}

-- The writer took this text since it had taken first, and so many bytes are told of it.
abbrev pub HasWrittenText : Option (List ℕ) → Option (List ℕ) → List ℕ → ℕ → Type 0
HasWrittenText first now text written = Appends first now text × (written ≡ saturated (length text))

-- It failed in this text, whatever was to come behind it.
abbrev pub FailsAfter : Option (List ℕ) → Option (List ℕ) → Bool → List ℕ → Outcome → Type 0
FailsAfter first now write_failed text fault = (rest : List ℕ) (wanted : Outcome) → Wrote first now write_failed (text ++ rest) wanted fault

-- The writer took these parts since it had taken first, and so many bytes are told of them.
abbrev pub HasWritten : Option (List ℕ) → Option (List ℕ) → List (List ℕ) → ℕ → Type 0
HasWritten first now parts written = Appends first now (joined parts) × (written ≡ saturated (length (joined parts)))

-- It failed in these parts, whatever was to come behind them.
abbrev pub FailsIn : Option (List ℕ) → Option (List ℕ) → Bool → List (List ℕ) → Outcome → Type 0
FailsIn first now write_failed parts fault = (rest : List ℕ) (wanted : Outcome) → Wrote first now write_failed (joined parts ++ rest) wanted fault
