use Rattle.cg_line.specs.Reads.{reads_viable}
use Rattle.cg_line.specs.SettingReads.{setting_reads_viable}
use Rattle.cg_line.proofs.laws.taken_is_viable.Goals as goal

pub returns-clause-file : goal.returns-clause-file
returns-clause-file c = reads_viable

pub returns-clause-write : goal.returns-clause-write
returns-clause-write c = setting_reads_viable
