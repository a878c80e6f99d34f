use Rattle.std.proofs.Common.{arith}
use Rattle.cg_text.specs.declared.hundredths.Spelling.TheVariants.{Read}
use Rattle.cg_join.specs.ApartLaws.{labelled_apart}
use Rattle.cg_join.specs.BeginsLaws.{label_begins, lead_begins}
use Rattle.cg_join.specs.CutLaws.{label_spells}
use Rattle.cg_join.specs.LackingLaws.{hundredths_lacking}
use Rattle.cg_join.specs.Spelling.{apart_spells, sequence_spells}
use Rattle.cg_join.proofs.pressure.averages.Goals as goal

pub new-requires-4 : goal.new-requires-4
new-requires-4 c =
    let avg300 = label_spells c.new-3.ensures.spells c.labelled-avg300.ensures.spells in
    let total = label_spells c.decimal_in.ensures.spells c.labelled-total.ensures.spells in
    apart_spells avg300 total (labelled_apart (hundredths_lacking 32 Read 99999 (omega arith)) (label_begins 32 _))

pub new-requires-5 : goal.new-requires-5
new-requires-5 c =
    let avg60 = label_spells c.new-2.ensures.spells c.labelled-avg60.ensures.spells in
    let avg300 = label_spells c.new-3.ensures.spells c.labelled-avg300.ensures.spells in
    let total = label_spells c.decimal_in.ensures.spells c.labelled-total.ensures.spells in
    let last = sequence_spells avg300 total c.new-4.ensures.spells in
    apart_spells avg60 last (labelled_apart (hundredths_lacking 32 Read 99999 (omega arith)) (lead_begins 32 _))

pub new-requires-6 : goal.new-requires-6
new-requires-6 c =
    let avg10 = label_spells c.new.ensures.spells c.labelled-avg10.ensures.spells in
    let avg60 = label_spells c.new-2.ensures.spells c.labelled-avg60.ensures.spells in
    let avg300 = label_spells c.new-3.ensures.spells c.labelled-avg300.ensures.spells in
    let total = label_spells c.decimal_in.ensures.spells c.labelled-total.ensures.spells in
    let others = sequence_spells avg60 (sequence_spells avg300 total c.new-4.ensures.spells) c.new-5.ensures.spells in
    apart_spells avg10 others (labelled_apart (hundredths_lacking 32 Read 99999 (omega arith)) (lead_begins 32 _))

pub returns-clause-spells : goal.returns-clause-spells
returns-clause-spells c =
    let avg10 = label_spells c.new.ensures.spells c.labelled-avg10.ensures.spells in
    let avg60 = label_spells c.new-2.ensures.spells c.labelled-avg60.ensures.spells in
    let avg300 = label_spells c.new-3.ensures.spells c.labelled-avg300.ensures.spells in
    let total = label_spells c.decimal_in.ensures.spells c.labelled-total.ensures.spells in
    let others = sequence_spells avg60 (sequence_spells avg300 total c.new-4.ensures.spells) c.new-5.ensures.spells in
    sequence_spells avg10 others c.new-6.ensures.spells
