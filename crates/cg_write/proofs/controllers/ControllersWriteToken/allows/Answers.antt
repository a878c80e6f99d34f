use Rattle.cg_write.proofs.controllers.ControllersWriteToken.allows.Goals as goal

pub returns : goal.returns
returns c = c.allows.ensures
