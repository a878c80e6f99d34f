use Rattle.cg_source.proofs.text_reader.SettingReaderTextReader.take_run.Goals as goal

pub returns-clause-taken : goal.returns-clause-taken
returns-clause-taken c form taken h = let run = rw c.front_of.ensures at c.push_run.ensures.pushed form taken h in record { took = run.takes; stops = run.stops }
