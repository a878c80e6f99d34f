-- What holds of reading whole writes.
use Rattle.std.proofs.Common.{◌≡◌, ℕ, ◌↔◌, List, Some}
use Rattle.cg_value.specs.Settings.{SettingText}
use Rattle.cg_value.specs.Table.{write_form_of}
use Rattle.cg_value.specs.declared.profile.Profile.{Profile}
use Rattle.cg_value.specs.declared.kind.WriteForm.{WriteForm}
use Rattle.cg_value.specs.declared.setting.Setting.{Setting}
use Rattle.cg_line.specs.SettingReads.{WritesOf}

module _ (profile : Profile) (name : List ℕ) (kind : WriteForm) (is : write_form_of profile name ≡ Some kind) where
  same_kind : (k : WriteForm) → write_form_of profile name ≡ Some k → k ≡ kind
  same_kind k e = cc

  -- The writes of the kind are those of the name.
  pub kind_writes : (text : List ℕ) (s : Setting) → WritesOf kind text s ↔ SettingText profile name s text
  kind_writes text s = (
    λ h. record { kind = kind; kind_is = is; spelled = h },
    λ h. (let e = same_kind h.kind h.kind_is in rw e at h.spelled),
  )
