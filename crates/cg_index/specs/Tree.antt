-- The tree of keys: where a walk by the digits of a key leads, and which keys it is of.
use Rattle.std.specs.Prelude.{◌≡◌, ℕ, ◌+◌, ◌<◌, ◌≤◌, ◌^◌, List, [], ◌∷◌, ◌++◌, Bool, Option, Some, None, IfSome, if◌then◌else◌, length, slice_index_or, slice_set, not}
use Rattle.cg_index.specs.Position.{number, side}
use Rattle.cg_index.specs.declared.position.Position.{Position}
use Rattle.cg_index.specs.declared.fork.Fork.{Fork}
use Rattle.cg_index.specs.declared.fork.Edge.{Edge}
use Rattle.cg_index.specs.declared.fork.InsertionPoint.{InsertionPoint}
use Rattle.cg_index.specs.declared.fork.Link.{Link}
use Rattle.cg_index.specs.declared.fork.Link.TheVariants as link

-- The forks of a tree and its root.
pub record Indexed : Type 0 where
  -- The forks that came with the keys, in the order of the keys. That of the first key counts for nothing.
  pub forks : List Fork
  -- Where a walk begins.
  pub root : Link

-- Where keys with this digit go on.
abbrev pub way : Fork → Bool → Link
way fork digit = if digit then fork.one else fork.zero

-- The fork, but that keys with this digit go on at the link.
abbrev pub turned : Fork → Bool → Link → Fork
turned fork digit link = if digit then record fork { one = link } else record fork { zero = link }

-- A fork that counts for nothing.
abbrev pub no_fork : Fork
no_fork = record { at = record { byte = 0; digit = 0 }; zero = link.Key 0; one = link.Key 0 }

-- The fork at a place.
abbrev pub fork_at : List Fork → ℕ → Fork
fork_at forks f = slice_index_or forks f no_fork

-- The number of the position of the fork at a place.
unfoldable pub at : List Fork → ℕ → ℕ
at forks f = number (fork_at forks f).at

-- Where keys with this digit go on at the fork at a place.
unfoldable pub child : List Fork → ℕ → Bool → Link
child forks f digit = way (fork_at forks f) digit

-- The link leads to something that is there, at a fork only to one of this position or a later one.
abbrev pub IsBelow : List Fork → ℕ → Link → Type 0
IsBelow forks low (link.Key k) = k < length forks
IsBelow forks low (link.Fork f) = (0 < f) × (f < length forks) × (low ≤ at forks f)

-- Links lead to something that is there, and from a fork only to later positions.
pub record IsTree (forks : List Fork) (root : Link) : Type 0 where
  pub rooted : 0 < length forks → IsBelow forks 0 root
  pub rising : (f : ℕ) (digit : Bool) → 0 < f → f < length forks → IsBelow forks (at forks f + 1) (child forks f digit)
  pub digits : (f : ℕ) → f < length forks → (fork_at forks f).at.digit < 8
  pub bytes : (f : ℕ) → f < length forks → (fork_at forks f).at.byte < 2 ^ 64

-- At the position the key goes on to one link, and keys with another digit there to the other.
pub record IsParting (fork : Fork) (key : List ℕ) (position : Position) (own other : Link) : Type 0 where
  pub place : fork.at ≡ position
  pub to_own : way fork (side key (number position)) ≡ own
  pub to_other : way fork (not (side key (number position))) ≡ other

-- The step of the key's walk from the fork, or from the root, goes on at the link.
abbrev pub IsRedirected : List Fork → Link → List ℕ → Option ℕ → Link → List Fork → Link → Type 0
IsRedirected old root key None link new top = (new ≡ old) × (top ≡ link)
IsRedirected old root key (Some f) link new top = (new ≡ slice_set old f (turned (fork_at old f) (side key (at old f)) link)) × (top ≡ root)

-- The forks where the step that the point names goes on at the point's link.
abbrev pub led_from : List Fork → Option ℕ → Bool → Link → List Fork
led_from forks None digit link = forks
led_from forks (Some f) digit link = slice_set forks f (turned (fork_at forks f) digit link)

abbrev pub led_forks : List Fork → InsertionPoint → List Fork
led_forks forks point = led_from forks point.from point.digit point.link

-- Where a walk then begins.
abbrev pub root_from : Link → Option ℕ → Link → Link
root_from root None link = link
root_from root (Some f) link = root

abbrev pub led_root : Link → InsertionPoint → Link
led_root root point = root_from root point.from point.link

-- A way over forks leads from the first link to the second.
pub data Reaches (forks : List Fork) : Link → Link → Type 0 where
  stop : {a : Link} → Reaches forks a a
  step : {f : ℕ} {a : Link} (digit : Bool) → Reaches forks (child forks f digit) a → Reaches forks (link.Fork f) a

-- The walk by the sides of the key leads from the link to the key of this number.
pub data Leads (forks : List Fork) (key : List ℕ) : Link → ℕ → Type 0 where
  here : {k : ℕ} → Leads forks key (link.Key k) k
  turn : {f k : ℕ} → Leads forks key (child forks f (side key (at forks f))) k → Leads forks key (link.Fork f) k

-- The key of this number.
abbrev pub key_at : List (List ℕ) → ℕ → List ℕ
key_at keys k = slice_index_or keys k []

-- The tree is one of these keys: each is reached, all behind a fork are the same before its position, and they have the
-- digit there by which they go on.
pub record IsOf (forks : List Fork) (root : Link) (keys : List (List ℕ)) : Type 0 where
  pub count : length forks ≡ length keys
  pub reached : (k : ℕ) → k < length forks → Reaches forks root (link.Key k)
  pub sides : (f k : ℕ) (digit : Bool) → 0 < f → f < length forks → k < length forks →
      Reaches forks (child forks f digit) (link.Key k) → side (key_at keys k) (at forks f) ≡ digit
  pub agree : (f j k p : ℕ) → 0 < f → f < length forks → j < length forks → k < length forks →
      Reaches forks (link.Fork f) (link.Key j) → Reaches forks (link.Fork f) (link.Key k) → p < at forks f →
      side (key_at keys j) p ≡ side (key_at keys k) p

-- It is the tree of these keys.
pub record Indexes (index : Indexed) (keys : List (List ℕ)) : Type 0 where
  pub sound : IsTree index.forks index.root
  pub tree : IsOf index.forks index.root keys

-- The walk by the sides of the key leads to the key of this number.
abbrev pub IsNearest : Indexed → List ℕ → ℕ → Type 0
IsNearest index key k = Leads index.forks key index.root k

-- Of whichever keys it is the tree, none but the key of this number can be this key.
abbrev pub IsOnlyFor : Indexed → List ℕ → ℕ → Type 0
IsOnlyFor index key k = (keys : List (List ℕ)) → Indexes index keys → (j : ℕ) → j < length keys → key_at keys j ≡ key → j ≡ k

-- The bytes are the key at the place, and none of no place.
abbrev pub IsKeyThere : List (List ℕ) → Option ℕ → List ℕ → Type 0
IsKeyThere keys None bytes = bytes ≡ []
IsKeyThere keys (Some place) bytes = bytes ≡ key_at keys place

-- To whichever of the keys the walk by the sides of the key leads, it is this one.
abbrev pub IsNear : Indexed → List (List ℕ) → List ℕ → List ℕ → Type 0
IsNear index keys key near = 0 < length keys → (k : ℕ) × IsNearest index key k × (key_at keys k ≡ near)

-- The last step before the position of a walk by the sides of the key.
pub record IsStep (forks : List Fork) (root : Link) (key : List ℕ) (position f : ℕ) (to : Link) : Type 0 where
  pub some : 0 < f
  pub within : f < length forks
  pub before : at forks f < position
  pub goes : child forks f (side key (at forks f)) ≡ to
  pub reached : Reaches forks root (link.Fork f)

abbrev pub IsFrom : List Fork → Link → List ℕ → ℕ → Option ℕ → Link → Type 0
IsFrom forks root key position None to = to ≡ root
IsFrom forks root key position (Some f) to = IsStep forks root key position f to

-- It is the digit of the key at the fork, if there is one.
abbrev pub IsTurn : List Fork → List ℕ → Option ℕ → Bool → Type 0
IsTurn forks key None digit = Unit {0}
IsTurn forks key (Some f) digit = digit ≡ side key (at forks f)

pub record IsEdge (forks : List Fork) (root : Link) (key : List ℕ) (position : ℕ) (edge : Edge) : Type 0 where
  pub from : IsFrom forks root key position edge.from edge.to
  pub turns : IsTurn forks key edge.from edge.digit
  pub behind : IsBelow forks position edge.to
  pub leads : (k : ℕ) → Leads forks key root k → Leads forks key edge.to k

-- The point is one of the key in the tree of these keys: where it is taken, the tree is one of these keys and this one.
pub record IsInsertionPoint (index : Indexed) (keys : List (List ℕ)) (key : List ℕ) (point : InsertionPoint) : Type 0 where
  pub within : IfSome point.from (λ f. f < length index.forks)
  pub tree : IsTree (led_forks index.forks point ++ point.fork ∷ []) (led_root index.root point)
  pub of : IsOf (led_forks index.forks point ++ point.fork ∷ []) (led_root index.root point) (keys ++ key ∷ [])
