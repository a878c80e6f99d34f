-- How an entry was written.
use Rattle.std.specs.Prelude.{◌≡◌, ℕ, ◌≤◌, Bool, true, List, length, take, Option, Result, Ok, Err}
use Rattle.std.specs.Io.KnownBytes.{Keeps, Appends}
use Rattle.cg_print.specs.declared.entry.EntryWriteFault.{EntryWriteFault}
use Rattle.cg_print.specs.declared.entry.EntryWriteFault.TheVariants.{Device, OutOfMemory}

-- The sink took the whole text; or, where it failed, the first bytes of it; or none, where no memory was left.
abbrev pub WroteEntry : List ℕ → (taken now : Option (List ℕ)) → (was is : Bool) → Result (Unit {0}) EntryWriteFault → Type 0
WroteEntry text taken now was is (Ok u) = Appends taken now text × (is ≡ was)
WroteEntry text taken now was is (Err (Device written)) = (written ≤ length text) × Appends taken now (take written text) × (is ≡ true)
WroteEntry text taken now was is (Err OutOfMemory) = Keeps taken now × (is ≡ was)
