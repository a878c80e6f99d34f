-- How bytes and sets of bytes are told.
use Rattle.std.specs.Prelude.{ℕ, zero, suc, ◌+◌, ◌-◌, ◌/◌, ◌%◌, Bool, true, false, not, ◌&&◌, nat_lt, nat_le, nat_eq, if◌then◌else◌, List, [], ◌∷◌, ◌++◌, length, codes, slice_index_or, Option, Some, None}

-- The digit of a number below 16.
abbrev pub hex_digit : ℕ → ℕ
hex_digit n = if nat_lt n 10 then 48 + n else 87 + n

-- A byte that is told as it is, in quotes.
abbrev pub is_quoted : ℕ → Bool
is_quoted b = nat_le 33 b && nat_le b 126

-- The name of a byte.
abbrev pub byte_name : ℕ → List ℕ
byte_name b = if nat_eq b 0 then codes "NUL" else if nat_eq b 10 then codes "newline" else if nat_eq b 32 then codes "space"
    else if is_quoted b then 39 ∷ b ∷ 39 ∷ [] else codes "0x" ++ hex_digit (b / 16) ∷ hex_digit (b % 16) ∷ []

-- The bytes below n that are in a set, or, where within is false, those that aren't; in ascending order.
abbrev pub is_listed : (within has : Bool) → Bool
is_listed true has = has
is_listed false has = not has

unfoldable pub bytes_below : List Bool → (within : Bool) → ℕ → List ℕ
bytes_below set within zero = []
bytes_below set within (suc n) = bytes_below set within n ++ (if is_listed within (slice_index_or set n false) then n ∷ [] else [])

abbrev pub bytes_of : List Bool → (within : Bool) → List ℕ
bytes_of set within = bytes_below set within 256

-- The next byte after one, where both are quoted.
abbrev pub is_next : ℕ → ℕ → Bool
is_next b c = nat_le 33 b && (nat_lt b 126 && nat_eq c (b + 1))

-- How many bytes in front are a run: each is the next after the one before it.
abbrev pub run_of : List ℕ → ℕ
run_of [] = 0
run_of (b ∷ []) = 1
run_of (b ∷ c ∷ bs) = if is_next b c then suc (run_of (c ∷ bs)) else 1

-- A byte, and of a run its last too.
abbrev pub item : ℕ → Option ℕ → List ℕ
item b None = byte_name b
item b (Some last) = byte_name b ++ (codes " to " ++ byte_name last)

-- Bytes, where so many of the first are told already: three or more of a run by its first and its last, any other by itself.
abbrev pub items : (passed : ℕ) → List ℕ → List (List ℕ)
items passed [] = []
items (suc passed) (b ∷ bs) = items passed bs
items zero (b ∷ bs) = if nat_le 3 (run_of (b ∷ bs)) then item b (Some (slice_index_or (b ∷ bs) (run_of (b ∷ bs) - 1) 0)) ∷ items (run_of (b ∷ bs) - 1) bs else item b None ∷ items zero bs

-- What joins bytes to those that are told before them, so many.
abbrev pub joint : (before : ℕ) (is_last : Bool) → List ℕ
joint zero is_last = []
joint (suc before) true = codes " or "
joint (suc before) false = codes ", "

-- What is behind the first of some texts: each behind a comma, and the last behind a word.
abbrev pub listed_behind : List (List ℕ) → List ℕ
listed_behind [] = []
listed_behind (x ∷ []) = codes " or " ++ x
listed_behind (x ∷ y ∷ xs) = codes ", " ++ (x ++ listed_behind (y ∷ xs))

abbrev pub listed : List (List ℕ) → List ℕ
listed [] = []
listed (x ∷ xs) = x ++ listed_behind xs

-- The bytes of a set: where they are more than 128, by those that aren't in it.
abbrev pub set_words : List Bool → List ℕ
set_words set =
    if nat_eq (length (bytes_of set true)) 0 then codes "nothing"
    else if nat_le (length (bytes_of set true)) 128 then listed (items 0 (bytes_of set true))
    else if nat_eq (length (bytes_of set false)) 0 then codes "any byte"
    else codes "any byte but " ++ listed (items 0 (bytes_of set false))
