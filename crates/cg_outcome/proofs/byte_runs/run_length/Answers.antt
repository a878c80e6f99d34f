use Rattle.std.proofs.Common.{◌≡◌, ◌+◌, ◌-◌, arith, drop, sym, ◌∙◌}
use Rattle.cg_outcome.specs.ByteNames.{run_of}
use Rattle.cg_outcome.proofs.ByteTold.{run_at_end, run_ends, run_goes}
use Rattle.cg_outcome.proofs.byte_runs.run_length.Goals as goal

pub returns-after-loop-length-clause-run : goal.returns-after-loop-length-clause-run
returns-after-loop-length-clause-run c =
    let bytes = c.args.bytes.now in
    let n = c.loop-length.length in
    let h = c.loop-length.invariant in
    let last : run_of (drop (n - 1) bytes) ≡ 1 = run_at_end bytes n h.some (omega (arith, h.within, c.loop-length-test.false)) in
    omega (arith, h.run, last)

pub returns-else-is_next-clause-run : goal.returns-else-is_next-clause-run
returns-else-is_next-clause-run c =
    let bytes = c.args.bytes.now in
    let n = c.loop-length.length in
    let h = c.loop-length.invariant in
    let last : run_of (drop (n - 1) bytes) ≡ 1 = run_ends bytes n h.some c.loop-length-test.true (sym c.is_next.ensures ∙ c.if-is_next.false) in
    omega (arith, h.run, last)

pub loop-length-preserved : goal.loop-length-preserved
loop-length-preserved c =
    let bytes = c.args.bytes.now in
    let n = c.loop-length.length in
    let h = c.loop-length.invariant in
    let same : n + 1 - 1 ≡ n = omega arith in
    let more : run_of (drop (n - 1) bytes) ≡ run_of (drop n bytes) + 1 = run_goes bytes n h.some c.loop-length-test.true (sym c.is_next.ensures ∙ c.if-is_next.true) in
    record { some = omega arith; within = omega (arith, c.loop-length-test.true); run = rw same (omega (arith, h.run, more)) }
