-- What holders of items with keys cite of hashes and trees.
use Rattle.std.proofs.Common.{◌≡◌, ℕ, suc, ◌<◌, List, [], ◌∷◌, ◌++◌, length, map, Option, Some, None, is_none, is_some, IfSome, ◌==◌, true, false}
use Rattle.std.proofs.Common.{sym, ap, ◌∙◌, arith}
use Rattle.std.proofs.lemmas.List.{map-append}
use Rattle.cg_text.specs.Distinct.{AreDistinct, LacksValue}
use Rattle.cg_text.specs.Hash.{hash_of}
use Rattle.cg_index.specs.IndexLaws.{no_length, near_has, near_lacks}
use Rattle.cg_index.specs.KeyedLaws.{some_place, distinct_push}
use Rattle.cg_index.specs.Keyed.{is_among}
use Rattle.cg_index.specs.Cells.{item_of, places_of, fork_of}
use Rattle.cg_index.specs.declared.cell.Cell.{Cell}
use Rattle.cg_index.specs.declared.fork.Fork.{Fork}
use Rattle.cg_index.specs.declared.fork.Link.{Link}
use Rattle.cg_index.specs.declared.trie.Opening.{Opening}
use Rattle.cg_index.specs.Found.{IsKeyed, IsOpening}
use Rattle.cg_index.specs.PlaceLaws.{lacks_at, no_place, one_place}
use Rattle.cg_index.specs.Tree.{Indexed, Indexes, IsKeyThere, IsOnlyFor, key_at}
use Rattle.cg_index.specs.Trie.{IsTrie}
use Rattle.cg_index.specs.TrieLaws.{opening_new}

keys_lack : (key : List ℕ) (keys : List (List ℕ)) → ((j : ℕ) → j < length keys → key_at keys j ≡ key → ⊥) → LacksValue key keys
keys_lack key [] h = tt
keys_lack key (k ∷ ks) h = ((λ e. h 0 (omega arith) (sym e)), keys_lack key ks (λ j l e. h (suc j) (omega (arith, l)) e))

-- A tree of no keys.
pub no_keys : (index : Indexed) → length index.forks ≡ 0 → Indexes index []
no_keys index none = record {
  sound = record {
    rooted = λ some. absurd (omega (arith, none, some));
    rising = λ f digit some h. absurd (omega (arith, none, h));
    digits = λ f h. absurd (omega (arith, none, h));
    bytes = λ f h. absurd (omega (arith, none, h));
  };
  tree = record {
    count = none;
    reached = λ k h. absurd (omega (arith, none, h));
    sides = λ f k digit some h m r. absurd (omega (arith, none, h));
    agree = λ f j k p some h m w r s less. absurd (omega (arith, none, h));
  };
}

-- A key that goes in at an opening is new.
pub opened_lacks : {keys trie : List (List ℕ)} {forks : List Fork} {root : Option Link} {at : Opening} (key : List ℕ) → IsKeyed keys trie forks root → IsOpening trie keys root (hash_of key) at → LacksValue key keys
opened_lacks {keys} key keyed opening = keys_lack key keys (opening_new key (rw (opening.none) at keyed.found) opening.ends)

pub opened_among : {keys trie : List (List ℕ)} {forks : List Fork} {root : Option Link} {at : Opening} (key : List ℕ) → IsKeyed keys trie forks root → IsOpening trie keys root (hash_of key) at → false ≡ is_among key keys
opened_among {keys} key keyed opening =
    ap is_some (sym (no_place key keys (opening_new key (rw (opening.none) at keyed.found) opening.ends))) ∙ some_place key keys

-- The key that is nearest to a new one is another.
pub near_apart : {index : Indexed} {keys : List (List ℕ)} → Indexes index keys → (near : Option ℕ) (there key : List ℕ) → is_none near ≡ (length index.forks == 0) →
    IfSome near (λ k. k < length index.forks) → IsKeyThere keys near there → LacksValue key keys → 0 < length index.forks → there ≡ key → ⊥
near_apart {index} of None there key none within is lacks some same = omega (arith, no_length (length index.forks) none, some)
near_apart {index} {keys} of (Some k) there key none within is lacks some same = lacks_at key keys k lacks (omega (arith, of.tree.count, within)) (sym is ∙ same)

-- The key that is found near is the one that is sought.
pub near_among : {index : Indexed} {keys : List (List ℕ)} → AreDistinct keys → Indexes index keys → (near : Option ℕ) (there key : List ℕ) →
    IfSome near (λ k. k < length index.forks) → IsKeyThere keys near there → there ≡ key → 0 < length key → true ≡ is_among key keys
near_among {index} {keys} distinct of near there key within is same some =
    let found = near_has of near there key within is same some in
    ap is_some (sym (one_place key keys found.0 distinct found.1 found.2)) ∙ some_place key keys

-- It is another one.
pub near_other : {index : Indexed} {keys : List (List ℕ)} → Indexes index keys → (near : Option ℕ) (there key : List ℕ) → is_none near ≡ (length index.forks == 0) →
    IfSome near (IsOnlyFor index key) → IsKeyThere keys near there → (there ≡ key → ⊥) → false ≡ is_among key keys
near_other {index} {keys} of near there key none only is apart =
    ap is_some (sym (no_place key keys (near_lacks of near there key none only is apart))) ∙ some_place key keys

-- An item has been added to the tree.
pub keyed_grown : {T : Type 0} (key : T → List ℕ) (old : List T) {new : List T} {trie : List (List ℕ)} {forks : List Fork} {root : Link} (item : T) → AreDistinct (map key old) → LacksValue (key item) (map key old) →
    new ≡ old ++ item ∷ [] → Indexes (record { forks = forks; root = root }) (map key new) → IsKeyed (map key new) trie forks (Some root)
keyed_grown key old item distinct lacks items of = record {
  distinct = rw (items, map-append) (distinct_push (map key old) (key item) distinct lacks);
  found = of;
}

-- An item has been added without a tree.
pub keyed_linked : {T : Type 0} (key : T → List ℕ) (old new : List (Cell T)) {root : Option Link} {at : Opening} (item : T) →
    IsKeyed (map key (map item_of old)) (map places_of old) (map fork_of old) root → IsOpening (map places_of old) (map key (map item_of old)) root (hash_of (key item)) at →
    map item_of new ≡ map item_of old ++ item ∷ [] → IsTrie (map places_of new) (map key (map item_of new)) → IsKeyed (map key (map item_of new)) (map places_of new) (map fork_of new) root
keyed_linked key old new {root} item keyed opening items trie = record {
  distinct = rw (items, map-append) (distinct_push (map key (map item_of old)) (key item) keyed.distinct (opened_lacks (key item) keyed opening));
  found = rw (opening.none) trie;
}
