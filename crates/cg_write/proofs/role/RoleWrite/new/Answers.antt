use Rattle.cg_join.specs.LineLaws.{lacks_spelled}
use Rattle.cg_value.specs.WriteLine.{IsRole}
use Rattle.cg_value.specs.declared.kind.WriteForm.TheVariants.{Role as RoleForm}
use Rattle.cg_value.specs.declared.setting.Setting.TheVariants.{Role}
use Rattle.cg_write.specs.RoleLaws.{role_is, role_lacking}
use Rattle.cg_write.specs.Mapped.{role_of}
use Rattle.cg_write.specs.WriteLaws.{line_through, write_spells}
use Rattle.cg_write.proofs.role.RoleWrite.new.Goals as goal
use Rattle.cg_write.specs.Texts.{IsRoleWord}

pub one_line-requires : goal.one_line-requires
one_line-requires c = lacks_spelled _ _ 10 c.role_text.ensures.spells role_lacking.is

pub returns-clause-spells : goal.returns-clause-spells
returns-clause-spells c =
    let whole = write_spells RoleForm (λ v. Role (role_of v)) c.role_text.ensures.spells c.one_line.ensures.spells (line_through IsRoleWord IsRole role_of Role role_is) in
    record { is = whole.is }
