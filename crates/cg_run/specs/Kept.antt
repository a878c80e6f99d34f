-- What a reader of a snapshot stands for, of which the entries are kept that the rules speak of.
use Rattle.std.proofs.Common.{◌≡◌, ℕ, ◌≤◌, List, [], length}
use Rattle.cg_value.specs.Entry.{EntryData}
use Rattle.cg_value.specs.declared.profile.Profile.{Profile}
use Rattle.cg_snap.specs.Decode.{HasTaken}
use Rattle.cg_snap.specs.Decoder.{offset_of}
use Rattle.cg_snap.specs.SnapStop.{IsSnapUnstopped}
use Rattle.cg_snap.specs.declared.limits.Limits.{Limits}
use Rattle.cg_tree.specs.Ruled.{ruled}
use Rattle.cg_run.specs.Check.{HasNoParts}
use Rattle.cg_run.specs.Taken.{taken_counted, taken_unstopped}
use Rattle.cg_run.specs.declared.kept.KeptReader.{KeptReader}

-- Its decoder took the bytes, and it has the entries that the rules speak of, of those that it gave. No part was given.
pub record HasKept (s : KeptReader) (form : Profile × Limits) (p : List ℕ) (parts : List (List ℕ)) : Type 0 where
  pub given : List EntryData
  pub taken : HasTaken s.decoder (form.0) (form.1) p given
  pub kept : s.entries.items ≡ ruled given
  pub none : parts ≡ []

abbrev pub kept_offset : KeptReader → ℕ
kept_offset s = offset_of s.decoder

pub kept_closed : (s : KeptReader) (form : Profile × Limits) (p : List ℕ) (parts : List (List ℕ)) → HasKept s form p parts → HasNoParts p parts
kept_closed s form p parts h = h.none

pub kept_passed : (s : KeptReader) (form : Profile × Limits) (p : List ℕ) (parts : List (List ℕ)) → HasKept s form p parts → IsSnapUnstopped (form.0) (form.1) p
kept_passed s form p parts h = taken_unstopped s.decoder (form.0) (form.1) p h.given h.taken

pub kept_counted : (s : KeptReader) (form : Profile × Limits) (p : List ℕ) (parts : List (List ℕ)) → HasKept s form p parts →
    (kept_offset s ≡ length p) × (length p ≤ form.1.max_stream)
kept_counted s form p parts h = taken_counted s.decoder (form.0) (form.1) p h.given h.taken
