-- What holders of keys cite of a tree.
use Rattle.std.proofs.Common.{◌≡◌, ◌≢◌, ℕ, zero, suc, ◌<◌, List, [], ◌∷◌, length, get_or, Option, Some, None, is_none, IfSome, true, ◌==◌, sym, ap, ◌∙◌, arith}
use Rattle.std.proofs.lemmas.Bool.Decides.{nat_tests}
use Rattle.cg_text.specs.Word.{AreWordBytes}
use Rattle.cg_index.specs.Position.{HasNoZero}
use Rattle.cg_index.specs.Tree.{Indexed, Indexes, IsKeyThere, IsNear, IsNearest, IsOnlyFor, key_at}

pub no_length : (n : ℕ) → true ≡ (n == 0) → n ≡ 0
no_length n e = grind (arith, nat_tests)

pub some_length : (seen n : ℕ) → seen ≡ n → (seen ≡ 0 → ⊥) → 0 < n
some_length seen zero e h = absurd (h e)
some_length seen (suc n) e h = omega arith

module _ {index : Indexed} {keys : List (List ℕ)} (of : Indexes index keys) (near : Option ℕ) (there key : List ℕ) where
  -- The key there is the one that is looked for, which isn't empty: it has a place among the keys.
  pub near_has : IfSome near (λ place. place < length index.forks) → IsKeyThere keys near there → there ≡ key → 0 < length key →
      (place : ℕ) × (place < length keys) × (key_at keys place ≡ key)
  near_has within is same some = elim near as
      (λ near. IfSome near (λ place. place < length index.forks) → IsKeyThere keys near there → (place : ℕ) × (place < length keys) × (key_at keys place ≡ key)) [
        | None ↦ λ w e. (
            let none : key ≡ [] = sym same ∙ e in
            absurd (omega (arith, some, ap length none)))
        | Some place ↦ λ w e. (place, omega (arith, of.tree.count, w), sym e ∙ same)
      ] within is

  -- It is another: none of the keys is the one that is looked for.
  pub near_lacks : is_none near ≡ (length index.forks == 0) → IfSome near (IsOnlyFor index key) → IsKeyThere keys near there → there ≢ key →
      (j : ℕ) → j < length keys → key_at keys j ≢ key
  near_lacks none only is apart j h e = elim near as
      (λ near. is_none near ≡ (length index.forks == 0) → IfSome near (IsOnlyFor index key) → IsKeyThere keys near there → ⊥) [
        | None ↦ λ n o i. omega (arith, of.tree.count, no_length (length index.forks) n, h)
        | Some place ↦ λ n o i. (
            let same : j ≡ place = o keys of j h e in
            apart (i ∙ ap (key_at keys) (sym same) ∙ e))
      ] none only is

  -- The key there is the nearest one.
  pub near_is : is_none near ≡ (length index.forks == 0) → IfSome near (IsNearest index key) → IsKeyThere keys near there → IsNear index keys key there
  near_is none nearest is = λ some. elim near as
      (λ near. is_none near ≡ (length index.forks == 0) → IfSome near (IsNearest index key) → IsKeyThere keys near there →
      (k : ℕ) × IsNearest index key k × (key_at keys k ≡ there)) [
        | None ↦ λ n o i. absurd (omega (arith, of.tree.count, no_length (length index.forks) n, some))
        | Some place ↦ λ n o i. (place, o, sym i)
      ] none nearest is

-- Words have no byte 0.
pub word_bytes : (key : List ℕ) → AreWordBytes key → HasNoZero key
word_bytes [] w = λ k d h. absurd (omega (arith, h))
word_bytes (c ∷ cs) w = λ k d h. elim k as (λ k. k < length (c ∷ cs) → 0 < get_or (c ∷ cs) k d) [
  | zero ↦ λ _. omega (arith, w.0)
  | suc i ↦ λ l. word_bytes cs w.1 i d (omega (arith, l))
] h
