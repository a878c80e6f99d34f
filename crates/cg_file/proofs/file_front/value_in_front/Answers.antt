use Rattle.std.proofs.Common.{refl}
use Rattle.cg_file.specs.FileFrontLaws.{clamp_line, class_line, cpu_max_line, empty_set, empty_words, found_front, limit_line, mode_line, number_line}
use Rattle.cg_file.proofs.file_front.value_in_front.Goals as goal

pub returns-in-Number : goal.returns-in-Number
returns-in-Number c = rw c.in-Number.is (found_front _ _ _ (number_line _ _) _ _ c.number_file.ensures.spells c.whole.ensures.front)

pub returns-in-Limit : goal.returns-in-Limit
returns-in-Limit c = rw c.in-Limit.is (found_front _ _ _ limit_line _ _ c.limit_file.ensures.spells c.whole-in-Limit.ensures.front)

pub returns-in-Mode : goal.returns-in-Mode
returns-in-Mode c = rw c.in-Mode.is (found_front _ _ _ mode_line _ _ c.mode_file.ensures.spells c.whole-in-Mode.ensures.front)

pub returns-in-Class : goal.returns-in-Class
returns-in-Class c = rw c.in-Class.is (found_front _ _ _ class_line _ _ c.class_file.ensures.spells c.whole-in-Class.ensures.front)

pub returns-in-CpuMax : goal.returns-in-CpuMax
returns-in-CpuMax c = rw c.in-CpuMax.is (found_front _ _ _ cpu_max_line _ _ c.new.ensures.spells c.whole-in-CpuMax.ensures.front)

pub returns-in-Clamp : goal.returns-in-Clamp
returns-in-Clamp c = rw c.in-Clamp.is (found_front _ _ _ clamp_line _ _ c.clamp_file.ensures.spells c.whole-in-Clamp.ensures.front)

pub returns-in-Words : goal.returns-in-Words
returns-in-Words c = let first = c.if-begins_empty.ensures refl in rw c.in-Words.is (empty_words _ _ c.new-in-Words.ensures first.0 first.1)

pub returns-in-Set : goal.returns-in-Set
returns-in-Set c = let first = c.if-begins_empty-2.ensures refl in rw c.in-Set.is (empty_set _ _ _ c.new-in-Set.ensures.empty first.0 first.1)
