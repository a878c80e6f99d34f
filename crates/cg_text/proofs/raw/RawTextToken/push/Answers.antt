use Rattle.std.proofs.Common.{◌≡◌, take, arith}
use Rattle.std.proofs.lemmas.List.{take_all}
use Rattle.cg_text.specs.ScanLaws.{raw_run}
use Rattle.cg_text.proofs.raw.RawTextToken.push.Goals as goal

pub returns-then-count-bytes-clause-follows : goal.returns-then-count-bytes-clause-follows
returns-then-count-bytes-clause-follows c rest v =
    let bytes = c.args.bytes.now in
    let n = c.raw_length-count.result in
    let all : take n bytes ≡ bytes = take_all n bytes (omega (arith, c.if-count-bytes.true)) in
    rw (c.in-Ok.ensures.items, c.split_at.ensures.front, all) (rw all at (raw_run c.args.self.now.bytes.items (take n bytes) rest v c.raw_length-count.ensures.raw))

pub returns-else-count-bytes-clause-follows : goal.returns-else-count-bytes-clause-follows
returns-else-count-bytes-clause-follows c rest v =
    rw (c.in-Ok.ensures.items, c.split_at.ensures.front) (raw_run c.args.self.now.bytes.items (take c.raw_length-count.result c.args.bytes.now) rest v c.raw_length-count.ensures.raw)
