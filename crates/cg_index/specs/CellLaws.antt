-- What becomes of the tree in cells.
use Rattle.std.specs.Prelude.{slice_set}
use Rattle.std.proofs.Common.{◌≡◌, ℕ, zero, suc, ◌+◌, ◌-◌, ◌<◌, List, [], ◌∷◌, ◌++◌, inl, inr, Bool, length, get_or, set, take, map, Option, Some, None, IfSome}
use Rattle.std.proofs.Common.{refl, sym, ap, ◌∙◌, arith}
use Rattle.std.proofs.Math.ListN.{length-set}
use Rattle.std.proofs.Math.Seq.{take-set-lt}
use Rattle.std.proofs.lemmas.List.{length-map, length-take-le, map-append, map-set, take-map, take_all, take_more_set, map_more, get_or-map, get_or-take}
use Rattle.std.proofs.lemmas.Bool.{cases_lt}
use Rattle.cg_text.specs.Distinct.{AreDistinct, LacksValue}
use Rattle.cg_text.specs.Hash.{hash_of}
use Rattle.cg_index.specs.Cells.{item_of, places_in, places_of, fork_of, no_links, tree_of}
use Rattle.cg_index.specs.Keyed.{IsLastChanged}
use Rattle.cg_index.specs.KeyedLaws.{last_changed}
use Rattle.cg_index.specs.PlaceLaws.{lacks_at, keys_read}
use Rattle.cg_index.specs.Tree.{Indexes, IsInsertionPoint, fork_at, key_at, no_fork, turned, led_from, led_forks, led_root}
use Rattle.cg_index.specs.Trie.{next, places_at, HasHash, IsEnd, IsTrie, linked}
use Rattle.cg_index.specs.TrieLaws.{IsTrie-linked}
use Rattle.cg_index.specs.declared.trie.End.TheVariants as end
use Rattle.cg_index.specs.declared.trie.Opening.{Opening}
use Rattle.cg_index.specs.declared.cell.Cell.{Cell}
use Rattle.cg_index.specs.declared.fork.Fork.{Fork}
use Rattle.cg_index.specs.declared.fork.Link.{Link}
use Rattle.cg_index.specs.declared.fork.InsertionPoint.{InsertionPoint}

taken_less : {X : Type 0} (f n : ℕ) (xs : List X) → f < length (take n xs) → f < n
taken_less f n xs h = elim (cases_lt n (length xs)) [
  | inl less ↦ omega (arith, h, length-take-le n xs (omega (arith, less)))
  | inr more ↦ let all : f < length xs = rw (take_all n xs (omega (arith, more))) at h in omega (arith, all, more)
]

length_led : (forks : List Fork) (from : Option ℕ) (digit : Bool) (l : Link) → length (led_from forks from digit l) ≡ length forks
length_led forks None digit l = refl
length_led forks (Some f) digit l = length-set forks f (turned (fork_at forks f) digit l)

-- What is led elsewhere lies in front of a place.
take_led : (forks : List Fork) (from : Option ℕ) (digit : Bool) (l : Link) (n : ℕ) → IfSome from (λ f. f < length (take n forks)) →
    take n (led_from forks from digit l) ≡ led_from (take n forks) from digit l
take_led forks None digit l n h = refl
take_led forks (Some f) digit l n h =
    let less : f < n = taken_less f n forks h in
    take-set-lt n forks f (turned (fork_at forks f) digit l) less
    ∙ ap (λ (x : Fork). set (take n forks) f (turned x digit l)) (sym (get_or-take n forks f no_fork less))

module _ {T : Type 0} where
  -- The fork that is read in a cell.
  pub fork_there : (cells : List (Cell T)) (i : ℕ) (cell : Cell T) (fork : Fork) → i < length (map fork_of cells) → cell ≡ get_or cells i cell → fork ≡ fork_of cell → fork_at (map fork_of cells) i ≡ fork
  fork_there cells i cell fork h is read = get_or-map fork_of cells i cell no_fork (omega (arith, h, length-map cells fork_of)) ∙ ap fork_of (sym is) ∙ sym read

  -- The item that is read in a cell.
  pub item_there : (cells : List (Cell T)) (i : ℕ) (cell : Cell T) → i < length cells → cell ≡ get_or cells i cell → get_or (map item_of cells) i cell.item ≡ cell.item
  item_there cells i cell h is = get_or-map item_of cells i cell cell.item h ∙ sym (ap item_of is)

  pub keys_length : (key : T → List ℕ) (cells : List (Cell T)) → length (map key (map item_of cells)) ≡ length cells
  keys_length key cells = length-map (map item_of cells) key ∙ length-map cells item_of

  -- The key that is read in a cell.
  pub key_in : (key : T → List ℕ) (cells : List (Cell T)) (i : ℕ) (cell : Cell T) → i < length cells → cell ≡ get_or cells i cell → key_at (map key (map item_of cells)) i ≡ key cell.item
  key_in key cells i cell h is =
      keys_read key (map item_of cells) i cell.item (omega (arith, h, length-map cells item_of)) ∙ ap key (item_there cells i cell h is)

  -- Where a walk goes on from a cell of the trie, and whose hash its key has.
  pub next_there : (cells : List (Cell T)) (i : ℕ) (cell : Cell T) (digit : ℕ) → i < length cells → cell ≡ get_or cells i cell → next (map places_of cells) i digit ≡ get_or (places_of cell) digit 0
  unfolding next
  next_there cells i cell digit h is = ap (λ (x : List ℕ). get_or x digit 0) (get_or-map places_of cells i cell [] h ∙ ap places_of (sym is))

  pub next_of_none : (cells : List (Cell T)) (i digit : ℕ) → (i < length cells → ⊥) → next (map places_of cells) i digit ≡ 0
  unfolding next
  next_of_none [] i digit h = refl
  next_of_none (c ∷ cs) zero digit h = absurd (h (omega arith))
  next_of_none (c ∷ cs) (suc i) digit h = next_of_none cs i digit (λ l. h (omega (arith, l)))

  pub hash_there : (key : T → List ℕ) (cells : List (Cell T)) (i hash : ℕ) (cell : Cell T) → i < length cells → cell ≡ get_or cells i cell → hash_of (key cell.item) ≡ hash → HasHash (map key (map item_of cells)) hash i
  hash_there key cells i hash cell h is has = (omega (arith, h, keys_length key cells), ap hash_of (key_in key cells i cell h is) ∙ has)

  pub no_hash_there : (key : T → List ℕ) (cells : List (Cell T)) (i hash : ℕ) (cell : Cell T) → i < length cells → cell ≡ get_or cells i cell → (hash_of (key cell.item) ≡ hash → ⊥) →
      HasHash (map key (map item_of cells)) hash i → ⊥
  no_hash_there key cells i hash cell h is lacks has = lacks (sym (ap hash_of (key_in key cells i cell h is)) ∙ has.1)

  -- The trie where an item has come in at an opening.
  pub linked_there : (key : T → List ℕ) (old now new : List (Cell T)) (item : T) (at : Opening) (cell : Cell T) → cell.item ≡ item → cell.links ≡ no_links → new ≡ now ++ cell ∷ [] → map item_of now ≡ map item_of old →
      map places_of now ≡ slice_set (map places_of old) at.place (slice_set (places_at (map places_of old) at.place) at.digit (length (map places_of old))) →
      IsTrie (map places_of old) (map key (map item_of old)) → IsEnd (map places_of old) (map key (map item_of old)) (hash_of (key item)) (end.Open at) → IsTrie (map places_of new) (map key (map item_of new))
  linked_there key old now new item at cell item_is links_are new_is items places trie ends =
      let all : map key (map item_of new) ≡ map key (map item_of old) ++ key item ∷ [] =
      ap (λ v. map key (map item_of v)) new_is ∙ ap (map key) (map-append item_of now (cell ∷ []) ∙ ap (λ v. v ++ cell.item ∷ []) items ∙ ap (λ v. map item_of old ++ v ∷ []) item_is) ∙ map-append key (map item_of old) (item ∷ []) in
      let links : map places_of new ≡ linked (map places_of old) at =
      ap (map places_of) new_is ∙ map-append places_of now (cell ∷ []) ∙ ap (λ v. v ++ places_of cell ∷ []) places ∙ ap (λ v. slice_set (map places_of old) at.place (slice_set (places_at (map places_of old) at.place) at.digit (length (map places_of old))) ++ places_in v ∷ []) links_are in
      rw (all, links) (IsTrie-linked trie (key item) at ends)

  -- A link of a cell leads to the next place.
  pub linked_set : (cells : List (Cell T)) (i digit n : ℕ) (cell new : Cell T) → i < length cells → cell ≡ get_or cells i cell → n ≡ length cells → places_of new ≡ slice_set (places_of cell) digit n →
      map places_of (set cells i new) ≡ slice_set (map places_of cells) i (slice_set (places_at (map places_of cells) i) digit (length (map places_of cells)))
  linked_set cells i digit n cell new h is count new_is =
      map-set places_of cells i new
      ∙ ap (set (map places_of cells) i) (new_is ∙ ap (λ (x : List ℕ). set x digit n) (ap places_of is ∙ sym (get_or-map places_of cells i cell [] h))
      ∙ ap (set (places_at (map places_of cells) i) digit) (count ∙ sym (length-map cells places_of)))

  -- A fork in a cell is turned.
  pub turned_there : (cells : List (Cell T)) (i : ℕ) (cell new : Cell T) (fork : Fork) (digit : Bool) (l : Link) → i < length cells → cell ≡ get_or cells i cell → fork ≡ fork_of cell →
      fork_of new ≡ turned fork digit l → map fork_of (set cells i new) ≡ led_from (map fork_of cells) (Some i) digit l
  turned_there cells i cell new fork digit l h is read new_is =
      let there : i < length (map fork_of cells) = omega (arith, h, length-map cells fork_of) in
      map-set fork_of cells i new
      ∙ ap (set (map fork_of cells) i) (new_is ∙ ap (λ (x : Fork). turned x digit l) (sym (fork_there cells i cell fork there is read)))

  -- The tree where a point has been taken.
  pub inserted_at : (key : T → List ℕ) (old new : List (Cell T)) (root : Link) (item : T) (point : InsertionPoint) → IsInsertionPoint (tree_of old root) (map key (map item_of old)) (key item) point →
      map item_of new ≡ map item_of old ++ item ∷ [] → map fork_of new ≡ led_forks (map fork_of old) point ++ point.fork ∷ [] →
      Indexes (tree_of new (led_root root point)) (map key (map item_of new))
  inserted_at key old new root item point is items forks = record {
    sound = rw forks is.tree;
    tree = rw (forks, items, map-append) is.of;
  }

  -- A key goes into the tree of those before it.
  pub built : (key : T → List ℕ) (old new : List (Cell T)) (i : ℕ) (root : Link) (item : T) (point : InsertionPoint) (cell : Cell T) → i < length old → cell ≡ get_or old i cell → item ≡ cell.item →
      IsInsertionPoint (tree_of (take i old) root) (map key (map item_of (take i old))) (key item) point →
      map item_of new ≡ map item_of old → map fork_of new ≡ set (led_forks (map fork_of old) point) i point.fork →
      Indexes (tree_of (take (i + 1) new) (led_root root point)) (map key (map item_of (take (i + 1) new)))
  built key old new i root item point cell within there is_item is items forks =
      inserted_at key (take i old) (take (i + 1) new) root item point is
      (sym (take-map item_of (i + 1) new) ∙ ap (take (i + 1)) items ∙ take-map item_of (i + 1) old ∙ map_more item_of old i cell within ∙ ap (λ v. map item_of (take i old) ++ v ∷ []) (ap item_of (sym there) ∙ sym is_item))
      (sym (take-map fork_of (i + 1) new) ∙ ap (take (i + 1)) forks ∙ take_more_set (led_forks (map fork_of old) point) i point.fork (omega (arith, within, length_led (map fork_of old) point.from point.digit point.link, length-map old fork_of))
      ∙ ap (λ v. v ++ point.fork ∷ []) (take_led (map fork_of old) point.from point.digit point.link i (rw take-map (is.within)) ∙ ap (λ v. led_forks v point) (take-map fork_of i old)))

  -- The last of the items gets a part where it lies.
  pub last_part : {W : Type 0} (changed : T → W → T) (part : W) (cells : List (Cell T)) (n : ℕ) (cell new : Cell T) → n ≡ length cells → 0 < length (map item_of cells) →
      cell ≡ get_or cells (n - 1) cell → new.item ≡ changed cell.item part → IsLastChanged changed (map item_of cells) part (map item_of (set cells (n - 1) new))
  last_part changed part cells n cell new count some is new_is =
      let within : n - 1 < length cells = omega (arith, count, some, length-map cells item_of) in
      rw map-set (last_changed changed part (map item_of cells) n cell.item new.item (omega (arith, count, length-map cells item_of)) some (sym (item_there cells (n - 1) cell within is)) new_is)

  -- A key isn't among those before it.
  pub taken_lacks : (key : T → List ℕ) (cells : List (Cell T)) (i : ℕ) (cell : Cell T) → AreDistinct (map key (map item_of cells)) → i < length cells → cell ≡ get_or cells i cell →
      LacksValue (key cell.item) (map key (map item_of (take i cells)))
  taken_lacks key (c ∷ cs) zero cell distinct h is = tt
  taken_lacks key (c ∷ cs) (suc i) cell distinct h is = (
    λ e. lacks_at (key c.item) (map key (map item_of cs)) i distinct.0 (omega (arith, h, keys_length key cs)) (key_in key cs i cell (omega (arith, h)) is ∙ e),
    taken_lacks key cs i cell distinct.1 (omega (arith, h)) is,
  )
  taken_lacks key [] i cell distinct h is = absurd (omega (arith, h))
