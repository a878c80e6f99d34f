use Rattle.cg_source.proofs.text_reader.SettingReaderTextReader.can_finish.Goals as goal

pub returns : goal.returns
returns c form taken h = c.can_finish.ensures form taken h
