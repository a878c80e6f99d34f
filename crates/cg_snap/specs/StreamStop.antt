-- The stop of a stream of records: which byte stops it, and why.
use Rattle.std.specs.Prelude.{◌≢◌, ℕ, List, [], ◌∷◌, ◌++◌, length}
use Rattle.cg_snap.specs.Begun.{EndsRecord, IsLongRecord}
use Rattle.cg_snap.specs.Stop.{IsUnstopped, StopOf}
use Rattle.cg_snap.specs.declared.limits.Limits.{Limits}
use Rattle.cg_snap.specs.declared.stop.Stop.{Stop}
use Rattle.cg_snap.specs.declared.stop.Why.{Why}

-- The rule that the last byte of the text breaks, by what is wrong with a byte after what came of its record.
abbrev pub IsLastWhy : (List ℕ → ℕ → Why → Type 0) → List ℕ → ℕ → Why → Type 0
IsLastWhy Breaks text place why = (begun : List ℕ) × (byte : ℕ) × EndsRecord text begun byte × Breaks begun byte why

-- L is the set of the streams' texts. Breaks says which rule a byte breaks after what is begun of its record, and Many, by the
-- limit of the records of one path, that with the last byte of a text there are too many.
module _ (L : List ℕ → Type 0) (Breaks : List ℕ → ℕ → Why → Type 0) (Many : ℕ → List ℕ → ℕ → Type 0) (limits : Limits) where
  -- No byte of the stream stops it; and the first that does stops it so.
  abbrev pub IsStreamUnstopped : List ℕ → Type 0
  IsStreamUnstopped text = IsUnstopped L (IsLastWhy Breaks) (IsLongRecord limits.max_record) (Many limits.max_lines) limits.max_stream text

  abbrev pub StreamStopOf : List ℕ → Stop → Type 0
  StreamStopOf text stop = StopOf L (IsLastWhy Breaks) (IsLongRecord limits.max_record) (Many limits.max_lines) limits.max_stream text stop

  -- The byte passes no limit after p.
  pub record IsFree (p : List ℕ) (byte : ℕ) : Type 0 where
    pub short : IsLongRecord limits.max_record (p ++ byte ∷ []) (length p) → ⊥
    pub few : Many limits.max_lines (p ++ byte ∷ []) (length p) → ⊥
    pub before : length p ≢ limits.max_stream
