-- The positions of keys. A key is a list of bytes without byte 0, which endless zeros follow.
use Rattle.std.specs.Prelude.{ℕ, ◌+◌, ◌*◌, ◌/◌, ◌%◌, ◌<◌, Bool, List, slice_index, ◌==◌}
use Rattle.std.specs.Int.{bit_at}
use Rattle.std.specs.List.{All}
use Rattle.cg_index.specs.declared.position.Position.{Position}

-- The place of the position in their order.
abbrev pub number : Position → ℕ
number p = 8 * p.byte + p.digit

-- Whether the binary digit of the byte is 1.
abbrev pub digit_of : ℕ → ℕ → Bool
digit_of byte k = bit_at byte k == 1

-- Whether the binary digit of the key is 1 at the position with this number.
unfoldable pub side : List ℕ → ℕ → Bool
side key p = digit_of (slice_index key (p / 8)) (p % 8)

-- No byte is 0.
abbrev pub HasNoZero : List ℕ → Type 0
HasNoZero key = All (λ byte. 0 < byte) key
