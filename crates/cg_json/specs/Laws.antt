-- The word that is shown with a value.
use Rattle.std.specs.Prelude.{◌≡◌}
use Rattle.cg_value.specs.Files.{Fits}
use Rattle.cg_value.specs.Kind.{read_word}
use Rattle.cg_value.specs.declared.kind.ReadForm.{ReadForm}
use Rattle.cg_value.specs.declared.value.Value.{Value}
use Rattle.cg_json.specs.Value.{kind_word}

abbrev pub WordOfKind : Type 0
WordOfKind = (kind : ReadForm) (v : Value) → Fits kind v → kind_word v ≡ read_word kind
