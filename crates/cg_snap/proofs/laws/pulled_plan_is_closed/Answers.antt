use Rattle.cg_snap.proofs.laws.pulled_plan_is_closed.Goals as goal

pub returns : goal.returns
returns c = λ d p items h. (h.closed, h.state.goes_on, h.unstopped)
