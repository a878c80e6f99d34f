-- The row that a file's name has. The files of huge pages have their pages' size in their names, for which `*` stands in the
-- row's (cgroup-v2.rst, "HugeTLB Interface Files"; the kernel's mm/hugetlb_cgroup.c prints the sizes).
use Rattle.std.specs.Prelude.{◌≡◌, ℕ, Bool, true, ◌||◌, ◌&&◌, nat_eq, nat_le, ◌+◌, ◌*◌, ◌-◌, List, [], ◌∷◌, ◌++◌, length, take, drop, Option, Some, None, option_map, option_and_then, codes, if◌then◌else◌}
use Rattle.std.specs.Char.{is_ascii_digit}
use Rattle.std.specs.Str.{bytes_eq}
use Rattle.cg_text.specs.Decimal.{IsDecimal}

-- What is behind the text that stands at the front of a name, none where it doesn't stand there.
abbrev pub behind : List ℕ → List ℕ → Option (List ℕ)
behind front name = if bytes_eq (take (length front) name) front then Some (drop (length front) name) else None

-- What is behind a number from 1 to 1023 whose first digits are those of n, or that begins where n is 0.
abbrev pub behind_number : ℕ → List ℕ → Option (List ℕ)
behind_number n [] = None
behind_number n (c ∷ cs) = if is_ascii_digit c
    then (if nat_le 1 (10 * n + (c - 48)) && nat_le (10 * n + (c - 48)) 1023 then behind_number (10 * n + (c - 48)) cs else None)
    else (if nat_eq n 0 then None else Some (c ∷ cs))

-- What is behind a unit.
abbrev pub is_unit : List ℕ → Bool
is_unit text = bytes_eq text (codes "KB") || bytes_eq text (codes "MB") || bytes_eq text (codes "GB")

abbrev pub behind_unit : List ℕ → Option (List ℕ)
behind_unit text = if is_unit (take 2 text) then Some (drop 2 text) else None

-- What is behind a size, a number and its unit.
abbrev pub behind_size : List ℕ → Option (List ℕ)
behind_size text = option_and_then behind_unit (behind_number 0 text)

-- The name of the row, if there may be one. A name that begins with `hugetlb.` goes on with a size.
abbrev pub sized_name : List ℕ → Option (List ℕ) → Option (List ℕ)
sized_name name None = Some name
sized_name name (Some text) = option_map (λ rest. codes "hugetlb.*" ++ rest) (behind_size text)

abbrev pub row_name : List ℕ → Option (List ℕ)
row_name name = sized_name name (behind (codes "hugetlb.") name)

-- The same as a relation: the name has a size in it, and the rest is behind that.
pub record IsSized (name rest : List ℕ) : Type 0 where
  pub number : ℕ
  pub digits : List ℕ
  pub unit : List ℕ
  pub digits_are : IsDecimal 1 1023 number digits
  pub unit_is : is_unit unit ≡ true
  pub name_is : name ≡ codes "hugetlb." ++ (digits ++ (unit ++ rest))
