-- What a reader of a snapshot stands for, of which each entry is a line of JSON.
use Rattle.std.proofs.Common.{◌≡◌, ℕ, ◌≤◌, List, length}
use Rattle.cg_value.specs.declared.profile.Profile.{Profile}
use Rattle.cg_snap.specs.Closed.{Closed}
use Rattle.cg_snap.specs.Decode.{HasTaken}
use Rattle.cg_snap.specs.Decoder.{offset_of}
use Rattle.cg_snap.specs.SnapStop.{IsSnapUnstopped}
use Rattle.cg_snap.specs.declared.limits.Limits.{Limits}
use Rattle.cg_run.specs.Stream.{PartsOf, json_part}
use Rattle.cg_run.specs.declared.entries.EntryReader.{EntryReader}
use Rattle.cg_run.specs.Taken.{taken_closed, taken_counted, taken_unstopped}

-- Its decoder took the bytes, and the parts are those of the entries that it gave.
abbrev pub HasTold : EntryReader → Profile × Limits → List ℕ → List (List ℕ) → Type 0
HasTold s form p parts = PartsOf json_part (λ bytes es. HasTaken s.decoder (form.0) (form.1) bytes es) p parts

abbrev pub told_offset : EntryReader → ℕ
told_offset s = offset_of s.decoder

pub told_closed : (s : EntryReader) (form : Profile × Limits) (p : List ℕ) (parts : List (List ℕ)) → HasTold s form p parts →
    PartsOf json_part (λ bytes es. Closed (form.0) bytes es) p parts
told_closed s form p parts h = (h.0, taken_closed s.decoder (form.0) (form.1) p (h.0) h.1, h.2)

pub told_passed : (s : EntryReader) (form : Profile × Limits) (p : List ℕ) (parts : List (List ℕ)) → HasTold s form p parts →
    IsSnapUnstopped (form.0) (form.1) p
told_passed s form p parts h = taken_unstopped s.decoder (form.0) (form.1) p (h.0) h.1

pub told_counted : (s : EntryReader) (form : Profile × Limits) (p : List ℕ) (parts : List (List ℕ)) → HasTold s form p parts →
    (told_offset s ≡ length p) × (length p ≤ form.1.max_stream)
told_counted s form p parts h = taken_counted s.decoder (form.0) (form.1) p (h.0) h.1
