-- The stop of a stream: the first byte that breaks the grammar or passes a limit.
use Rattle.std.specs.Prelude.{◌≡◌, ◌≢◌, ℕ, ◌+◌, ◌<◌, List, length, take}
use Rattle.cg_text.specs.Texts.{Viable}
use Rattle.cg_snap.specs.declared.stop.Stop.{Stop}
use Rattle.cg_snap.specs.declared.stop.Stop.TheVariants.{Refused, TooLong, TooMany, TooMuch, Cut}
use Rattle.cg_snap.specs.declared.stop.Why.{Why}
use Rattle.cg_snap.specs.declared.stop.Why.TheVariants.{Line}

-- L is the set of the streams' texts. Which rule a bad byte breaks, which bytes make their record too long, and which
-- begin one record too many, depend on the stream up to that byte; each is said of the bytes up to and with it, and of its place.
module _ (L : List ℕ → Type 0) (IsWhy : List ℕ → ℕ → Why → Type 0) (IsLong IsMany : List ℕ → ℕ → Type 0) (max : ℕ) where
  -- No text goes on with the byte at k.
  abbrev pub IsBad : List ℕ → ℕ → Type 0
  IsBad text k = Viable L (take (k + 1) text) → ⊥

  -- The byte at k doesn't stop the stream.
  pub record IsPassed (text : List ℕ) (k : ℕ) : Type 0 where
    pub viable : Viable L (take (k + 1) text)
    pub short : IsLong (take (k + 1) text) k → ⊥
    pub few : IsMany (take (k + 1) text) k → ⊥
    pub before : k ≢ max

  -- The byte at k stops the stream so: the grammar comes first, then the record, the entry and the whole stream.
  abbrev pub StopsAt : List ℕ → ℕ → Stop → Type 0
  StopsAt text k (Refused at why) = (at ≡ k) × IsBad text k × IsWhy (take (k + 1) text) k why
  StopsAt text k (TooLong at) = (at ≡ k) × Viable L (take (k + 1) text) × IsLong (take (k + 1) text) k
  StopsAt text k (TooMany at) = (at ≡ k) × Viable L (take (k + 1) text) × (IsLong (take (k + 1) text) k → ⊥) × IsMany (take (k + 1) text) k
  StopsAt text k (TooMuch at) = (at ≡ k) × Viable L (take (k + 1) text) × (IsLong (take (k + 1) text) k → ⊥) × (IsMany (take (k + 1) text) k → ⊥) × (k ≡ max)
  StopsAt text k (Cut at) = ⊥

  -- No byte stops the stream.
  abbrev pub IsUnstopped : List ℕ → Type 0
  IsUnstopped text = (k : ℕ) → k < length text → IsPassed text k

  -- The first byte that stops the stream stops it so.
  pub record StopOf (text : List ℕ) (stop : Stop) : Type 0 where
    pub place : ℕ
    pub within : place < length text
    pub unstopped : IsUnstopped (take place text)
    pub stops : StopsAt text place stop

-- The place that a stop tells.
abbrev pub place_of : Stop → ℕ
place_of (Refused at why) = at
place_of (TooLong at) = at
place_of (TooMany at) = at
place_of (TooMuch at) = at
place_of (Cut at) = at

-- One file or one setting has no records: only its grammar and the limit of the whole can stop it.
abbrev pub is_line : List ℕ → ℕ → Why → Type 0
is_line text k why = why ≡ Line

abbrev pub never : List ℕ → ℕ → Type 0
never text k = ⊥

abbrev pub IsTextUnstopped : (List ℕ → Type 0) → ℕ → List ℕ → Type 0
IsTextUnstopped L max text = IsUnstopped L is_line never never max text

abbrev pub TextStopOf : (List ℕ → Type 0) → ℕ → List ℕ → Stop → Type 0
TextStopOf L max text stop = StopOf L is_line never never max text stop
