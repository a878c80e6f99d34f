use Rattle.std.proofs.Common.{◌≤◌, arith}
use Rattle.std.proofs.lemmas.Bool.{iff_false}
use Rattle.cg_snap.proofs.Nuls.{count_some, full_is, line_few}
use Rattle.cg_snap.proofs.States.{flag_between}
use Rattle.cg_snap.proofs.snapshot.is_full.Goals as goal

pub returns-then-not-is_in_line : goal.returns-then-not-is_in_line
returns-then-not-is_in_line c = λ profile p es h.
    let count = count_some c.args.begun.now.items c.args.present.now in
    let has = c.has_lines.ensures count.0 count.1 in
    full_is profile c.args.begun.now.items c.args.present.now p es count.0 c.args.max_lines _
    (omega (arith, c.ranges.max_lines.fits))
    (flag_between c.args.present.now c.is_in_line.result c.is_in_line.ensures c.if-not-is_in_line.true) h
    count.1
    (λ e. has.0 e) (λ e. (let few : c.args.max_lines ≤ count.0 → ⊥ = iff_false has e in omega (arith, few)))

pub returns-else-not-is_in_line : goal.returns-else-not-is_in_line
returns-else-not-is_in_line c = λ profile p es h.
    rw c.if-not-is_in_line.false (line_few profile c.args.begun.now.items c.args.present.now p es c.args.max_lines c.is_in_line.result c.is_in_line.ensures c.if-not-is_in_line.false h)
