use Rattle.std.proofs.Common.{Bool}
use Rattle.cg_text.specs.declared.trigger.Times.{Times}
use Rattle.cg_join.specs.LineLaws.{lacks_spelled}
use Rattle.cg_value.specs.WriteLine.{IsTrigger}
use Rattle.cg_value.specs.declared.kind.WriteForm.TheVariants.{Trigger as TriggerForm}
use Rattle.cg_value.specs.declared.setting.Setting.TheVariants.{Trigger}
use Rattle.cg_write.specs.TriggerLaws.{threshold_lacking, trigger_is}
use Rattle.cg_write.specs.Mapped.{is_full, threshold_of}
use Rattle.cg_write.specs.WriteLaws.{line_through, write_spells}
use Rattle.cg_write.proofs.trigger.TriggerWrite.new.Goals as goal
use Rattle.cg_write.specs.Texts.{IsThreshold}

pub one_line-requires : goal.one_line-requires
one_line-requires c = lacks_spelled _ _ 10 c.threshold_text.ensures.spells threshold_lacking.is

pub returns-clause-spells : goal.returns-clause-spells
returns-clause-spells c =
    let whole = write_spells TriggerForm (λ v. Trigger (is_full v.0) v.1.1.stall v.1.1.window) c.threshold_text.ensures.spells c.one_line.ensures.spells
    (line_through IsThreshold IsTrigger threshold_of (λ (x : Bool × Times). Trigger (x.0) x.1.stall x.1.window) trigger_is) in
    record { is = whole.is }
