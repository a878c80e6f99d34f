use Rattle.cg_json.proofs.tokens.GroupModeJson.append_to.Goals as goal

pub returns-in-DomainThreaded : goal.returns-in-DomainThreaded
returns-in-DomainThreaded c = rw c.in-DomainThreaded.is c.append_string-in-DomainThreaded.ensures
