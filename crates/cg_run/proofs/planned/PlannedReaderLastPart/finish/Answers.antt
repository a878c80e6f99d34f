use Rattle.cg_run.proofs.Planning.{plan_cut, plan_whole}
use Rattle.cg_run.proofs.planned.PlannedReaderLastPart.finish.Goals as goal

pub returns-in-Ok : goal.returns-in-Ok
returns-in-Ok c form p parts h =
    plan_whole c.args.self.decoder (form.0) (form.1) p (h.0) parts h.2 h.1 (c.in-Ok.ensures.finished p (h.0) h.1.stop h.1.stands) c.args._out.now.items

pub returns-in-Err : goal.returns-in-Err
returns-in-Err c form p parts h =
    plan_cut c.args.self.decoder (form.0) (form.1) p (h.0) parts h.2 h.1 c.in-Err.stop (c.in-Err.ensures.finished p (h.0) h.1.stop h.1.stands) c.args._out.now.items
