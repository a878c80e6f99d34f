-- How much of a stream was consumed, and which limit the next byte passes.
use Rattle.std.specs.Prelude.{◌≡◌, ℕ, ◌<◌, ◌≤◌, List, length, Option, Some, None, Bool, true, false}
use Rattle.cg_snap.specs.Begun.{IsBegun}
use Rattle.cg_snap.specs.declared.meter.Meter.{Meter}
use Rattle.cg_snap.specs.declared.stop.Stop.{Stop}
use Rattle.cg_snap.specs.declared.stop.Stop.TheVariants.{Refused, TooLong, TooMany, TooMuch, Cut}

-- The meter counted the bytes p and those of the record that is begun.
pub record IsCounted (m : Meter) (p : List ℕ) : Type 0 where
  pub offset : m.offset ≡ length p
  pub within : length p ≤ m.limits.max_stream
  pub begun : List ℕ
  pub begins : IsBegun p begun
  pub length_is : m.record_len ≡ length begun

-- The first limit that a byte passes: of the record, of the records of one path, which is full or not, and of the whole stream.
abbrev pub LimitIs : Meter → Bool → Option Stop → Type 0
LimitIs m full None = (m.record_len < m.limits.max_record) × (full ≡ false) × (m.offset < m.limits.max_stream)
LimitIs m full (Some (TooLong at)) = (at ≡ m.offset) × (m.limits.max_record ≤ m.record_len)
LimitIs m full (Some (TooMany at)) = (at ≡ m.offset) × (m.record_len < m.limits.max_record) × (full ≡ true)
LimitIs m full (Some (TooMuch at)) = (at ≡ m.offset) × (m.record_len < m.limits.max_record) × (full ≡ false) × (m.limits.max_stream ≤ m.offset)
LimitIs m full (Some (Refused at why)) = ⊥
LimitIs m full (Some (Cut at)) = ⊥
