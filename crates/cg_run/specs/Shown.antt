-- What a reader of a snapshot stands for, of which each entry is shown.
use Rattle.std.proofs.Common.{◌≡◌, ℕ, ◌≤◌, List, ◌++◌, length, map}
use Rattle.cg_value.specs.Entry.{EntryData}
use Rattle.cg_value.specs.declared.profile.Profile.{Profile}
use Rattle.cg_snap.specs.Closed.{Closed}
use Rattle.cg_snap.specs.Decode.{HasTaken}
use Rattle.cg_snap.specs.Decoder.{offset_of}
use Rattle.cg_snap.specs.Laws.{print_entries}
use Rattle.cg_snap.specs.SnapStop.{IsSnapUnstopped}
use Rattle.cg_snap.specs.declared.limits.Limits.{Limits}
use Rattle.cg_run.specs.ShownBytes.{shown_bytes}
use Rattle.cg_run.specs.Stream.{PartsOf, shown_part}
use Rattle.cg_run.specs.Taken.{taken_closed, taken_counted, taken_unstopped}
use Rattle.cg_run.specs.declared.shown.ShownReader.{ShownReader}

-- The text is what came behind these entries, as it is shown.
pub record IsShownBehind (text : List ℕ) (bytes : List ℕ) (es : List EntryData) : Type 0 where
  pub present : List ℕ
  pub split : bytes ≡ print_entries es ++ present
  pub shows : text ≡ shown_bytes present

-- Its decoder took the bytes, the parts are those of the entries that it gave, and its text is of the bytes behind these.
pub record HasShown (s : ShownReader) (form : Profile × Limits) (p : List ℕ) (parts : List (List ℕ)) : Type 0 where
  pub es : List EntryData
  pub taken : HasTaken s.decoder (form.0) (form.1) p es
  pub parts_are : parts ≡ map shown_part es
  pub behind : IsShownBehind s.present.items p es

abbrev pub shown_offset : ShownReader → ℕ
shown_offset s = offset_of s.decoder

pub shown_closed : (s : ShownReader) (form : Profile × Limits) (p : List ℕ) (parts : List (List ℕ)) → HasShown s form p parts →
    PartsOf shown_part (λ bytes es. Closed (form.0) bytes es) p parts
shown_closed s form p parts h = (h.es, taken_closed s.decoder (form.0) (form.1) p h.es h.taken, h.parts_are)

pub shown_passed : (s : ShownReader) (form : Profile × Limits) (p : List ℕ) (parts : List (List ℕ)) → HasShown s form p parts → IsSnapUnstopped (form.0) (form.1) p
shown_passed s form p parts h = taken_unstopped s.decoder (form.0) (form.1) p h.es h.taken

pub shown_counted : (s : ShownReader) (form : Profile × Limits) (p : List ℕ) (parts : List (List ℕ)) → HasShown s form p parts →
    (shown_offset s ≡ length p) × (length p ≤ form.1.max_stream)
shown_counted s form p parts h = taken_counted s.decoder (form.0) (form.1) p h.es h.taken
