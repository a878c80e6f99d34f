use Rattle.std.proofs.Common.{◌<◌, [], length, take, arith}
use Rattle.cg_value.specs.Files.{KindFile}
use Rattle.cg_line.specs.ReadsLaws.{first_next}
use Rattle.cg_line.specs.OpenReadsLaws.{took_read}
use Rattle.cg_line.proofs.reader.begin_run.Goals as goal

pub returns-in-None-clause-stops : goal.returns-in-None-clause-stops
returns-in-None-clause-stops c =
    let bytes = c.args.bytes.now in
    let used = c.push_run-run.result.used in
    let some : 0 < used = omega arith in
    let inside : 0 < length bytes = omega (arith, some, c.push_run-run.ensures.within) in
    let reads = (c.push_run-run.ensures.pushed c.args.kind [] c.new-reader.ensures.reads).reads in
    (inside, tt, first_next (KindFile c.args.kind) bytes used some c.push_run-run.ensures.within (took_read c.push_run-run.new.self c.args.kind (take used bytes) reads).viable)
