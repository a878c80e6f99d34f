-- Parts of a list, with their places.
use Rattle.std.specs.Prelude.{ℕ, Bool, List, map}
use Rattle.std.specs.List.{enumerate_from, filter}

-- What is made of each element that passes the test, in order. The test and what is made look at the element and its place.
abbrev pub picked : {X Y : Type 0} → (ℕ × X → Bool) → (ℕ × X → Y) → List X → List Y
picked test make xs = map make (filter test (enumerate_from 0 xs))
