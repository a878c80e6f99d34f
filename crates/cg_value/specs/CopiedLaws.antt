-- What holds of items in cells that are copied from their front.
use Rattle.std.proofs.Common.{◌≡◌, ℕ, ◌+◌, ◌<◌, List, [], ◌∷◌, ◌++◌, length, get_or, map, take, sym, ap, ◌∙◌}
use Rattle.std.proofs.lemmas.List.{map_more}
use Rattle.cg_text.specs.Distinct.{AreDistinct, LacksValue}
use Rattle.cg_index.specs.Cells.{item_of}
use Rattle.cg_index.specs.CellLaws.{taken_lacks}
use Rattle.cg_index.specs.declared.cell.Cell.{Cell}

module _ {T : Type 0} (cells : List (Cell T)) (k : ℕ) (cell : Cell T) (t : T) (done : List T) (within : k < length cells) (at : cell ≡ get_or cells k cell) (is : t ≡ cell.item)
    (so_far : done ≡ map item_of (take k cells)) where
  -- The items up to the next.
  pub one_copied : done ++ t ∷ [] ≡ map item_of (take (k + 1) cells)
  one_copied = ap (λ ts. ts ++ t ∷ []) so_far ∙ ap (λ u. map item_of (take k cells) ++ u ∷ []) (is ∙ ap item_of at) ∙ sym (map_more item_of cells k cell within)

  -- The next has another key than those before it, where the keys are all different.
  pub key_is_new : (key : T → List ℕ) → AreDistinct (map key (map item_of cells)) → LacksValue (key t) (map key done)
  key_is_new key different = rw (so_far, is) (taken_lacks key cells k cell different within at)
