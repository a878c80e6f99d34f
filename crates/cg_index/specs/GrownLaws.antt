-- How the forks of a tree grow by one.
use Rattle.std.proofs.Common.{◌≡◌, ◌≢◌, ℕ, ◌+◌, ◌<◌, ◌^◌, ◌⊎◌, inl, inr, List, [], ◌∷◌, ◌++◌, length, set, Option, Some, None, IfSome, Bool, true, false, not}
use Rattle.std.proofs.Common.{refl, sym, ap, ◌∙◌, arith}
use Rattle.std.proofs.Math.ListN.{length-set}
use Rattle.std.proofs.Math.Seq.{get_or-append_seam}
use Rattle.std.proofs.lemmas.Bool.{cases_lt, cases_order}
use Rattle.std.proofs.lemmas.List.{nil_from_length, get_or_append_left, length_push, get_or-set_other, get_or-set_same}
use Rattle.cg_index.specs.Position.{number, side}
use Rattle.cg_index.specs.declared.position.Position.{Position}
use Rattle.cg_index.specs.declared.fork.Fork.{Fork}
use Rattle.cg_index.specs.declared.fork.Edge.{Edge}
use Rattle.cg_index.specs.declared.fork.Link.{Link}
use Rattle.cg_index.specs.declared.fork.Link.TheVariants as link
use Rattle.cg_index.specs.Tree.{at, child, way, turned, fork_at, no_fork, key_at, IsBelow, IsTree, stop, Leads, IsOf, IsStep, IsFrom, IsTurn, IsEdge, IsParting, IsRedirected, led_from, root_from, Indexed, Indexes, IsNear, IsInsertionPoint}
use Rattle.cg_index.specs.TreeLaws.{IsGrown, IsFirst, IsFound, StandsFor, side_cases, nearest_within, above, IsTree-grown, IsOf-grown}

-- The fork that is added is the last.

at_before : (forks : List Fork) (fork : Fork) (f : ℕ) → f < length forks → at (forks ++ fork ∷ []) f ≡ at forks f
unfolding at
at_before forks fork f h = ap (λ (x : Fork). number x.at) (get_or_append_left forks (fork ∷ []) no_fork f h)

at_last : (forks : List Fork) (fork : Fork) (f : ℕ) → f ≡ length forks → at (forks ++ fork ∷ []) f ≡ number fork.at
unfolding at
at_last forks fork f e = rw e (ap (λ (x : Fork). number x.at) (get_or-append_seam forks fork [] no_fork))

child_before : (forks : List Fork) (fork : Fork) (f : ℕ) (digit : Bool) → f < length forks → child (forks ++ fork ∷ []) f digit ≡ child forks f digit
unfolding child
child_before forks fork f digit h = ap (λ (x : Fork). way x digit) (get_or_append_left forks (fork ∷ []) no_fork f h)

child_last : (forks : List Fork) (fork : Fork) (f : ℕ) (digit : Bool) → f ≡ length forks → child (forks ++ fork ∷ []) f digit ≡ way fork digit
unfolding child
child_last forks fork f digit e = rw e (ap (λ (x : Fork). way x digit) (get_or-append_seam forks fork [] no_fork))

-- A fork is turned.

turned_at : (fork : Fork) (digit : Bool) (l : Link) → (turned fork digit l).at ≡ fork.at
turned_at fork true l = refl
turned_at fork false l = refl

turned_way : (fork : Fork) (digit : Bool) (l : Link) → way (turned fork digit l) digit ≡ l
turned_way fork true l = refl
turned_way fork false l = refl

turned_other : (fork : Fork) (digit : Bool) (l : Link) → way (turned fork digit l) (not digit) ≡ way fork (not digit)
turned_other fork true l = refl
turned_other fork false l = refl

module _ (forks : List Fork) (f : ℕ) (digit : Bool) (l : Link) (h : f < length forks) where
  here_now : fork_at (set forks f (turned (fork_at forks f) digit l)) f ≡ turned (fork_at forks f) digit l
  here_now = get_or-set_same forks f (turned (fork_at forks f) digit l) no_fork h

  else_now : (g : ℕ) → g ≢ f → fork_at (set forks f (turned (fork_at forks f) digit l)) g ≡ fork_at forks g
  else_now g apart = get_or-set_other forks f g (turned (fork_at forks f) digit l) no_fork apart

  position_turned : (g : ℕ) → (fork_at (set forks f (turned (fork_at forks f) digit l)) g).at ≡ (fork_at forks g).at
  position_turned g = elim (cases_order g f) [
    | inl same ↦ rw same (ap (λ (x : Fork). x.at) here_now ∙ turned_at (fork_at forks f) digit l)
    | inr (inl less) ↦ ap (λ (x : Fork). x.at) (else_now g (omega arith))
    | inr (inr more) ↦ ap (λ (x : Fork). x.at) (else_now g (omega arith))
  ]

  at_turned : (g : ℕ) → at (set forks f (turned (fork_at forks f) digit l)) g ≡ at forks g
  unfolding at
  at_turned g = ap number (position_turned g)

  child_turned : child (set forks f (turned (fork_at forks f) digit l)) f digit ≡ l
  unfolding child
  child_turned = ap (λ (x : Fork). way x digit) here_now ∙ turned_way (fork_at forks f) digit l

  child_beside : child (set forks f (turned (fork_at forks f) digit l)) f (not digit) ≡ child forks f (not digit)
  unfolding child
  child_beside = ap (λ (x : Fork). way x (not digit)) here_now ∙ turned_other (fork_at forks f) digit l

  child_else : (g : ℕ) (d : Bool) → g ≢ f → child (set forks f (turned (fork_at forks f) digit l)) g d ≡ child forks g d
  unfolding child
  child_else g d apart = ap (λ (x : Fork). way x d) (else_now g apart)

-- Old forks don't lead to the new one.
not_new : {forks : List Fork} {root : Link} (tree : IsTree forks root) → (f : ℕ) (digit : Bool) → 0 < f → f < length forks → child forks f digit ≡ link.Fork (length forks) → ⊥
not_new {forks} tree f digit some h e =
    let below : IsBelow forks (at forks f + 1) (link.Fork (length forks)) = rw e at (tree.rising f digit some h) in
    omega (arith, below.1)

-- The parts of a growth.
module _ {old : List Fork} {root : Link} (tree : IsTree old root) {fork : Fork} {key : List ℕ} {position : Position} {to : Link}
    (parting : IsParting fork key position (link.Key (length old)) to) where
  grown_at_top : to ≡ root → IsGrown old (old ++ fork ∷ []) root (link.Fork (length old)) key (number position) to
  grown_at_top to_root = record {
    count = length_push old fork;
    kept = λ f h. at_before old fork f h;
    added = at_last old fork (length old) refl ∙ ap number parting.place;
    own = child_last old fork (length old) _ refl ∙ parting.to_own;
    other = child_last old fork (length old) _ refl ∙ parting.to_other;
    stands = λ f digit some h. inl (child_before old fork f digit h);
    turns = λ f digit some h e. absurd (not_new tree f digit some h (sym (child_before old fork f digit h) ∙ e));
    top_stands = inr (refl, sym to_root);
    reached = inl refl;
  }

  module _ {f : ℕ} (from : IsStep old root key (number position) f to) where
    turned_forks : List Fork
    turned_forks = set old f (turned (fork_at old f) (side key (at old f)) (link.Fork (length old)))

    same_length : length turned_forks ≡ length old
    unfolding turned_forks
    same_length = length-set old f (turned (fork_at old f) (side key (at old f)) (link.Fork (length old)))

    step_stands : (g : ℕ) (digit : Bool) → StandsFor (length old) to (child turned_forks g digit) (child old g digit)
    unfolding turned_forks
    step_stands g digit = elim (cases_order g f) [
      | inl same ↦ rw same (elim (side_cases digit (side key (at old f))) [
        | inl turns ↦ rw turns (inr (child_turned old f (side key (at old f)) (link.Fork (length old)) from.within, from.goes))
        | inr stays ↦ rw stays (inl (child_beside old f (side key (at old f)) (link.Fork (length old)) from.within))
      ])
      | inr (inl less) ↦ inl (child_else old f (side key (at old f)) (link.Fork (length old)) from.within g digit (omega arith))
      | inr (inr more) ↦ inl (child_else old f (side key (at old f)) (link.Fork (length old)) from.within g digit (omega arith))
    ]

    step_turns : (g : ℕ) (digit : Bool) → 0 < g → g < length old → child turned_forks g digit ≡ link.Fork (length old) → at old g < number position
    unfolding turned_forks
    step_turns g digit some h e = elim (cases_order g f) [
      | inl same ↦ rw same (from.before)
      | inr (inl less) ↦ absurd (not_new tree g digit some h (sym (child_else old f (side key (at old f)) (link.Fork (length old)) from.within g digit (omega arith)) ∙ e))
      | inr (inr more) ↦ absurd (not_new tree g digit some h (sym (child_else old f (side key (at old f)) (link.Fork (length old)) from.within g digit (omega arith)) ∙ e))
    ]

    step_at : (g : ℕ) → at turned_forks g ≡ at old g
    unfolding turned_forks
    step_at g = at_turned old f (side key (at old f)) (link.Fork (length old)) from.within g

    step_led : child turned_forks f (side key (at old f)) ≡ link.Fork (length old)
    unfolding turned_forks
    step_led = child_turned old f (side key (at old f)) (link.Fork (length old)) from.within

    grown_under : IsGrown old (turned_forks ++ fork ∷ []) root root key (number position) to
    grown_under =
        let n = length old in
        let last : n ≡ length turned_forks = sym same_length in
        record {
          count = length_push turned_forks fork ∙ ap (λ (m : ℕ). m + 1) same_length;
          kept = λ g h. at_before turned_forks fork g (omega arith) ∙ step_at g;
          added = at_last turned_forks fork n last ∙ ap number parting.place;
          own = child_last turned_forks fork n _ last ∙ parting.to_own;
          other = child_last turned_forks fork n _ last ∙ parting.to_other;
          stands = λ g digit some h. rw (child_before turned_forks fork g digit (omega arith)) (step_stands g digit);
          turns = λ g digit some h e. step_turns g digit some h (sym (child_before turned_forks fork g digit (omega arith)) ∙ e);
          top_stands = inl refl;
          reached = inr (f, side key (at old f), child_before turned_forks fork f (side key (at old f)) (omega (arith, from.within)) ∙ step_led, from.reached);
        }

  -- Wherever the step to the new fork comes from.
  grown_from : (from : Option ℕ) (mid : List Fork) (top : Link) → IsFrom old root key (number position) from to →
      IsRedirected old root key from (link.Fork (length old)) mid top → IsGrown old (mid ++ fork ∷ []) root top key (number position) to
  unfolding turned_forks
  grown_from None mid top to_root redirected = rw (redirected.0, redirected.1) (grown_at_top to_root)
  grown_from (Some f) mid top from redirected = rw (redirected.0, redirected.1) (grown_under from)

  positions_from : (from : Option ℕ) (mid : List Fork) (top : Link) → IsFrom old root key (number position) from to →
      IsRedirected old root key from (link.Fork (length old)) mid top → (f : ℕ) → (fork_at mid f).at ≡ (fork_at old f).at
  positions_from None mid top from redirected f = rw (redirected.0) refl
  positions_from (Some g) mid top from redirected f =
      rw (redirected.0) (position_turned old g (side key (at old g)) (link.Fork (length old)) from.within f)

-- A key is inserted: its fork is added at the end, and the edge before it led to the fork instead.
record IsInserted (old : List Fork) (root : Link) (key near : List ℕ) (position : Position) (edge : Edge) (n : ℕ) (mid : List Fork) (top : Link) (fork : Fork) : Type 0 where
  pub count : n ≡ length old
  pub some : 0 < length old
  pub first : IsFirst key near (number position)
  pub along : IsEdge old root key (number position) edge
  pub parting : IsParting fork key position (link.Key n) edge.to
  pub redirected : IsRedirected old root key edge.from (link.Fork n) mid top

-- The tree is one of the keys, and the walk by the key leads to the near one.
record IsKnown (forks : List Fork) (root : Link) (keys : List (List ℕ)) (key near : List ℕ) : Type 0 where
  pub of : IsOf forks root keys
  pub place : ℕ
  pub leads : Leads forks key root place
  pub is : key_at keys place ≡ near

known_in : (view : Indexed) {keys : List (List ℕ)} (key near : List ℕ) → Indexes view keys → IsNear view keys key near → 0 < length view.forks →
    IsKnown view.forks view.root keys key near
known_in view key near of found some =
    let there = found (omega (arith, some, of.tree.count)) in
    record { of = of.tree; place = there.0; leads = there.1; is = there.2 }

module _ {old : List Fork} {root : Link} {key near : List ℕ} {position : Position} {edge : Edge} {n : ℕ} {mid : List Fork} {top : Link} {fork : Fork}
    (tree : IsTree old root) (inserted : IsInserted old root key near position edge n mid top fork) where
  inserted_grown : IsGrown old (mid ++ fork ∷ []) root top key (number position) edge.to
  inserted_grown = grown_from tree (rw (inserted.count) at inserted.parting) edge.from mid top inserted.along.from (rw (inserted.count) at inserted.redirected)

  inserted_length : length mid ≡ length old
  inserted_length = let grows = inserted_grown.count in omega (arith, length_push mid fork, grows)

  inserted_position : (f : ℕ) → f < length (mid ++ fork ∷ []) → ((fork_at (mid ++ fork ∷ []) f).at ≡ position) ⊎ ((f < length old) × ((fork_at (mid ++ fork ∷ []) f).at ≡ (fork_at old f).at))
  inserted_position f h = elim (cases_lt f (length old)) [
    | inl less ↦
        let kept = get_or_append_left mid (fork ∷ []) no_fork f (omega (arith, inserted_length)) in
        let parting = rw (inserted.count) at inserted.parting in
        let redirected = rw (inserted.count) at inserted.redirected in
        inr (less, ap (λ (x : Fork). x.at) kept ∙ positions_from tree parting edge.from mid top inserted.along.from redirected f)
    | inr more ↦
        let last : f ≡ length mid = omega (arith, inserted_length, length_push mid fork, h) in
        inl (rw last (ap (λ (x : Fork). x.at) (get_or-append_seam mid fork [] no_fork) ∙ inserted.parting.place))
  ]

  module _ {keys : List (List ℕ)} (known : IsKnown old root keys key near) where
    inserted_found : IsFound old root keys key near (number position) edge.to known.place
    inserted_found = record {
      within = nearest_within tree inserted.some known.leads;
      is = known.is;
      leads = inserted.along.leads known.place known.leads;
      behind = inserted.along.behind;
      first = inserted.first;
    }

    inserted_tree : position.digit < 8 → position.byte < 2 ^ 64 → IsTree (mid ++ fork ∷ []) top
    inserted_tree digit byte = IsTree-grown tree inserted_grown
        (λ f h. elim (inserted_position f h) [ inl is ↦ rw is digit | inr old_one ↦ rw (old_one.1) (tree.digits f old_one.0) ])
        (λ f h. elim (inserted_position f h) [ inl is ↦ rw is byte | inr old_one ↦ rw (old_one.1) (tree.bytes f old_one.0) ])
        inserted.some (above tree known.of inserted_found)

    inserted_of : IsOf (mid ++ fork ∷ []) top (keys ++ key ∷ [])
    inserted_of = IsOf-grown tree known.of inserted_found inserted_grown inserted.some

-- The first key.
first_of : (fork : Fork) (key : List ℕ) → IsOf (fork ∷ []) (link.Key 0) (key ∷ [])
first_of fork key = record {
  count = refl;
  reached = λ k h. let same : k ≡ 0 = omega (arith, h) in rw same stop;
  sides = λ f k digit some h m r. absurd (omega (arith, some, h));
  agree = λ f j k p some h m w r s less. absurd (omega (arith, some, h));
}

-- Points.

redirected_at : (forks : List Fork) (root : Link) (key : List ℕ) (from : Option ℕ) (digit : Bool) (l : Link) → IsTurn forks key from digit →
    IsRedirected forks root key from l (led_from forks from digit l) (root_from root from l)
redirected_at forks root key None digit l turns = (refl, refl)
redirected_at forks root key (Some f) digit l turns = (ap (λ (d : Bool). set forks f (turned (fork_at forks f) d l)) turns, refl)

from_within : (forks : List Fork) (root : Link) (key : List ℕ) (position : ℕ) (from : Option ℕ) (to : Link) → IsFrom forks root key position from to → IfSome from (λ f. f < length forks)
from_within forks root key position None to from = tt
from_within forks root key position (Some f) to from = from.within

-- The point that the edge gives.
pub edge_point : (view : Indexed) (keys : List (List ℕ)) (key near : List ℕ) (position : Position) (edge : Edge) (n : ℕ) (fork : Fork) →
    Indexes view keys → IsNear view keys key near → n ≡ length view.forks → 0 < length view.forks →
    IsFirst key near (number position) → IsEdge view.forks view.root key (number position) edge → IsParting fork key position (link.Key n) edge.to →
    position.digit < 8 → position.byte < 2 ^ 64 → IsInsertionPoint view keys key (record { fork = fork; from = edge.from; digit = edge.digit; link = link.Fork n })
edge_point view keys key near position edge n fork of is_near count some first along parting digit byte =
    let inserted : IsInserted view.forks view.root key near position edge n (led_from view.forks edge.from edge.digit (link.Fork n)) (root_from view.root edge.from (link.Fork n)) fork = record {
      count = count;
      some = some;
      first = first;
      along = along;
      parting = parting;
      redirected = redirected_at view.forks view.root key edge.from edge.digit (link.Fork n) along.turns;
    } in
    let known = known_in view key near of is_near some in
    record {
      within = from_within view.forks view.root key (number position) edge.from edge.to along.from;
      tree = inserted_tree of.sound inserted known digit byte;
      of = inserted_of of.sound inserted known;
    }

first_tree : IsTree (no_fork ∷ []) (link.Key 0)
first_tree = record {
  rooted = λ h. omega arith;
  rising = λ f digit some h. absurd (omega (arith, some, h));
  digits = λ f h. let same : f ≡ 0 = omega (arith, h) in rw same (omega arith);
  bytes = λ f h. let same : f ≡ 0 = omega (arith, h) in rw same (omega arith);
}

-- The point of the first key.
pub first_point : (view : Indexed) (keys : List (List ℕ)) (key : List ℕ) (fork : Fork) → Indexes view keys → length view.forks ≡ 0 → fork ≡ no_fork →
    IsInsertionPoint view keys key (record { fork = fork; from = None; digit = false; link = link.Key 0 })
first_point view keys key fork of none is =
    let no_forks = nil_from_length view.forks none in
    let no_keys = nil_from_length keys (sym of.tree.count ∙ none) in
    rw is (record {
      within = tt;
      tree = rw no_forks first_tree;
      of = rw (no_forks, no_keys) (first_of no_fork key);
    })
