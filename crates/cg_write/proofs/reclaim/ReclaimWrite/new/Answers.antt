use Rattle.std.proofs.Common.{ℕ, Option}
use Rattle.cg_text.specs.declared.values.Limit.{Limit}
use Rattle.cg_join.specs.LineLaws.{lacks_spelled}
use Rattle.cg_value.specs.WriteLine.{IsReclaim}
use Rattle.cg_value.specs.declared.kind.WriteForm.TheVariants.{Reclaim as ReclaimForm}
use Rattle.cg_value.specs.declared.setting.Setting.TheVariants.{Reclaim}
use Rattle.cg_write.specs.ReclaimLaws.{reclaim_is, reclaim_lacking}
use Rattle.cg_write.specs.Mapped.{perhaps_both, second_of}
use Rattle.cg_write.specs.WriteLaws.{line_through, write_spells}
use Rattle.cg_write.proofs.reclaim.ReclaimWrite.new.Goals as goal
use Rattle.cg_write.specs.Texts.{IsWrittenReclaim}

pub one_line-requires : goal.one_line-requires
one_line-requires c = lacks_spelled _ _ 10 c.reclaim_text.ensures.spells (reclaim_lacking c.args.max).is

pub returns-clause-spells : goal.returns-clause-spells
returns-clause-spells c =
    let whole = write_spells (ReclaimForm c.args.max) (λ v. Reclaim v.0 (second_of v.1)) c.reclaim_text.ensures.spells c.one_line.ensures.spells
    (line_through (IsWrittenReclaim c.args.max) (λ (x : ℕ × Option Limit) l. IsReclaim c.args.max (x.0) (x.1) l) perhaps_both (λ x. Reclaim (x.0) (x.1)) (reclaim_is c.args.max)) in
    record { is = whole.is }
