-- A text of one token, of another, or of both in this order.
use Rattle.std.specs.Prelude.{ℕ, Bool, true, false, List, [], ◌∷◌, Option, Some, None, IsTrue}
use Rattle.cg_join.specs.Join.{IsSequence}
use Rattle.cg_join.specs.Maybe.{IsMaybe, MaybeRest}
use Rattle.cg_join.specs.Spelling.{IsConcat}
use Rattle.cg_file.specs.declared.one_or_both.PartsTaken.{PartsTaken}
use Rattle.cg_file.specs.declared.one_or_both.PartsTaken.TheVariants.{Start, First, Second, Both}

module _ {V W : Type 0} (P : List ℕ → V → Type 0) (Q : List ℕ → W → Type 0) where
  -- With the values of those that are there.
  abbrev pub IsOneOrBoth : List ℕ → Option V → Option W → Type 0
  IsOneOrBoth text (Some v) w = IsConcat P (IsMaybe Q) text (v, w)
  IsOneOrBoth text None (Some w) = Q text w
  IsOneOrBoth text None None = ⊥

  -- None is empty, and they begin with different bytes.
  abbrev pub Differ : Type 0
  Differ = ((v : V) → P [] v → ⊥) × ((b : ℕ) (more back : List ℕ) (v : V) (w : W) → P (b ∷ more) v → Q (b ∷ back) w → ⊥)

-- Whether the first may be there; whether it may be missing; whether it is ended; and whether the second isn't begun.
abbrev pub has_first : PartsTaken → Bool
has_first Start = true
has_first First = true
has_first Second = false
has_first Both = true

abbrev pub lacks_first : PartsTaken → Bool
lacks_first Start = true
lacks_first First = false
lacks_first Second = true
lacks_first Both = false

abbrev pub in_second : PartsTaken → Bool
in_second Start = false
in_second First = false
in_second Second = false
in_second Both = true

abbrev pub waits : PartsTaken → Bool
waits Start = true
waits First = true
waits Second = false
waits Both = false

abbrev pub is_start : PartsTaken → Bool
is_start Start = true
is_start First = false
is_start Second = false
is_start Both = false

-- Whether nothing need follow.
abbrev pub ends_at : PartsTaken → Bool → Bool → Bool
ends_at Start a b = false
ends_at First a b = a
ends_at Second a b = b
ends_at Both a b = b

module _ {S T V W : Type 0} (first : S → List ℕ → V → Type 0) (second : T → List ℕ → W → Type 0) where
  -- The second or nothing, where it is begun or not.
  abbrev pub LaterRest : Bool × T → List ℕ → Option W → Type 0
  LaterRest x rest w = MaybeRest (x.0) (second (x.1)) rest w

  -- What is left.
  abbrev pub OneOrBothRest : PartsTaken → S → T → List ℕ → Option V → Option W → Type 0
  OneOrBothRest place s t rest (Some v) w = IsTrue (has_first place) × IsSequence first LaterRest (in_second place) s (in_second place, t) rest v w
  OneOrBothRest place s t rest None w = IsTrue (lacks_first place) × MaybeRest true (second t) rest w
