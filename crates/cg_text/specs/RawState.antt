-- What is left of a raw line, and of a reason.
use Rattle.std.specs.Prelude.{◌≡◌, ℕ, ◌-◌, ◌<◌, ◌≢◌, Bool, ◌&&◌, nat_lt, nat_eq, List, ◌++◌, length, slice_index_or}
use Rattle.cg_text.specs.Raw.{IsRawLine}

-- A raw line has this byte.
abbrev pub IsRawByte : ℕ → Type 0
IsRawByte c = (0 < c) × (c < 256) × (c ≢ 10)

-- The rest makes the line of what was taken.
pub record IsRawRest (taken rest line : List ℕ) : Type 0 where
  pub whole : line ≡ taken ++ rest
  pub raw : IsRawLine rest

-- Whether the last byte is a closing parenthesis.
abbrev pub is_closed : List ℕ → Bool
is_closed taken = nat_lt 0 (length taken) && nat_eq (slice_index_or taken (length taken - 1) 0) 41
