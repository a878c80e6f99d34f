use Rattle.cg_join.specs.CutLaws.{label_spells}
use Rattle.cg_join.specs.Spelling.{apart_spells, mapped_spells, sequence_spells, spells_as}
use Rattle.cg_file.specs.ParamFileLaws.{param_line, params_apart, params_is}
use Rattle.cg_file.proofs.device_params.ParamLineText.new.Goals as goal

pub new-requires-3 : goal.new-requires-3
new-requires-3 c = apart_spells c.new-2.ensures.spells (label_spells c.new.ensures.spells c.spaced-pairs.ensures.spells) params_apart

pub returns-clause-spells : goal.returns-clause-spells
returns-clause-spells c =
    let pairs = label_spells c.new.ensures.spells c.spaced-pairs.ensures.spells in
    let whole = spells_as (mapped_spells param_line (sequence_spells c.new-2.ensures.spells pairs c.new-3.ensures.spells) c.new-4.ensures.spells) params_is in
    record { is = whole.is }
