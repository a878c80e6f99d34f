-- What is known of the entry whose records come, after each step of its reader and where it ends.
use Rattle.std.proofs.Common.{◌≡◌, ℕ, List, length, ◌∙◌, ap}
use Rattle.std.proofs.Math.Logic.{∥∥₁_map}
use Rattle.cg_value.specs.Entry.{IsSomeEntry}
use Rattle.cg_value.specs.Files.{KindText}
use Rattle.cg_value.specs.Print.{print_lines}
use Rattle.cg_value.specs.declared.kind.ReadForm.{ReadForm}
use Rattle.cg_value.specs.declared.value.Value.{Value}
use Rattle.cg_line.specs.Reads.{Reads}
use Rattle.cg_line.specs.declared.reader.ValueReader.{ValueReader}
use Rattle.cg_snap.specs.Sound.{IsSound}

-- A reader that took bytes, or none, whatever the kind.
pub sound_after : (path : List ℕ) (old new : ValueReader) → IsSound path old → ((kind : ReadForm) (taken : List ℕ) → Reads old kind taken → (now : List ℕ) × Reads new kind now) → IsSound path new
sound_after path old new h step = ∥∥₁_map h (λ s. let now = step s.0 s.1 s.3 in (s.0, now.0, s.2, now.1))

-- The value of the reader, which has some line, makes an entry.
pub sound_entry : (path : List ℕ) (reader : ValueReader) (v : Value) (count : ℕ) → IsSound path reader →
    ((kind : ReadForm) (taken : List ℕ) → Reads reader kind taken → KindText kind v taken) → count ≡ length (print_lines v) → (count ≡ 0 → ⊥) → IsSomeEntry path v
sound_entry path reader v count h read counts some = ∥∥₁_map h (λ s.
    let text = read s.0 s.1 s.3 in (
      s.2.profile,
      record {
        good = s.2.good;
        kind = s.0;
        reads = s.2.reads_at;
        fits = record { lines = text.lines; spelled = text.spelled };
        some_line = λ none. some (counts ∙ ap length none);
      },
    ))
