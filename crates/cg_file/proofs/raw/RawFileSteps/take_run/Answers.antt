use Rattle.std.proofs.Common.{◌<◌, ℕ, get_or, take, arith}
use Rattle.cg_value.specs.LinesOfLaws.{no_nul_lacking}
use Rattle.cg_value.specs.RawLines.{HasNoNul}
use Rattle.cg_file.specs.RawFileLaws.{raw_file_run}
use Rattle.cg_file.proofs.raw.RawFileSteps.take_run.Goals as goal

pub returns-in-Ok-clause-follows : goal.returns-in-Ok-clause-follows
returns-in-Ok-clause-follows c =
    let count = c.count_before-count.result in
    let small : (i : ℕ) → get_or c.args.bytes.now i 0 < 256 = λ i. omega (arith, c.type_inv.bytes i) in
    let plain : HasNoNul (take count c.args.bytes.now) = no_nul_lacking c.args.bytes.now count small c.count_before-count.ensures.lacks in
    λ rest v. rw (c.in-Ok.ensures.added, c.split_at.ensures.front) (raw_file_run c.args.self.now.text.items (take count c.args.bytes.now) rest v plain)
