use Rattle.std.proofs.Common.{Bool, sym, subst}
use Rattle.cg_source.specs.Explained.{IsExplained}
use Rattle.cg_c.specs.Explain.{HasNoForm, Texts}
use Rattle.cg_c.proofs.explain.explained.Goals as goal

pub returns-then-is_written : goal.returns-then-is_written
returns-then-is_written c =
    subst (λ (b : Bool). IsExplained (HasNoForm c.args.profile c.args.name.now b) (Texts c.args.profile c.args.name.now b) c.args.name.now c.args.text.now c.explain_setting.result) (sym c.if-is_written.true) c.explain_setting.ensures

pub returns-else-is_written : goal.returns-else-is_written
returns-else-is_written c =
    subst (λ (b : Bool). IsExplained (HasNoForm c.args.profile c.args.name.now b) (Texts c.args.profile c.args.name.now b) c.args.name.now c.args.text.now c.explain_file.result) (sym c.if-is_written.false) c.explain_file.ensures
