-- The JSON tree of an entry.
use Rattle.std.specs.Prelude.{ℕ, List, [], ◌∷◌, ◌++◌, Option, codes}
use Rattle.serde_json.specs.Data.{Data, string}
use Rattle.serde_json.specs.Written.{compact_text}
use Rattle.cg_value.specs.Entry.{EntryData}
use Rattle.cg_value.specs.declared.value.Value.{Value}
use Rattle.cg_json.specs.Json.{fields, given_data, number_data, text_data}
use Rattle.cg_json.specs.Value.{kind_word, value_data}

-- The word of its kind, its path and its value.
abbrev pub tree_of : List ℕ → Value → Data
tree_of path v = fields ((codes "kind", string (kind_word v)) ∷ (codes "path", text_data path) ∷ (codes "value", value_data v) ∷ [])

abbrev pub view_of : EntryData → Data
view_of e = tree_of e.path e.value

-- The compact text of the tree, and a newline.
abbrev pub line_of : EntryData → List ℕ
line_of e = compact_text (view_of e) ++ 10 ∷ []

-- What is left out: the place of the byte at fault, the path, or null where there is none, and why.
abbrev pub left_out_tree : ℕ → Option (List ℕ) → (why : List ℕ) → Data
left_out_tree at path why = fields (
    (codes "at", number_data at) ∷ (codes "kind", string (codes "left_out")) ∷ (codes "path", given_data text_data path) ∷ (codes "why", string why) ∷ []
    )

abbrev pub left_out_line : ℕ → Option (List ℕ) → (why : List ℕ) → List ℕ
left_out_line at path why = compact_text (left_out_tree at path why) ++ 10 ∷ []
