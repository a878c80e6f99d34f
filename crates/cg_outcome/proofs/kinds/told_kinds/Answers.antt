use Rattle.std.proofs.Common.{◌≡◌, ◌+◌, ◌≤◌, ◌++◌, refl, sym, ap, ◌∙◌, take, length, length-append, arith}
use Rattle.std.proofs.Math.Nat.{min-eq_left}
use Rattle.cg_print.proofs.Known.{Appends-trans}
use Rattle.cg_value.specs.TableRows.{row_at}
use Rattle.cg_outcome.specs.Kinds.{kinds_line, kinds_lines}
use Rattle.cg_outcome.specs.Wrote.{joined}
use Rattle.cg_outcome.proofs.KindsLemmas.{few_rows, lines_more, lines_all, first_bytes, within_all}
use Rattle.cg_outcome.proofs.kinds.told_kinds.Goals as goal

pub lines-preserved : goal.lines-preserved
lines-preserved g c =
    let place = c.lines.place in
    let within = c.in-Some.ensures.row.0 in
    let front = joined (take place (kinds_lines c.args.profile)) in
    let line = c.line_of-line.result in
    let line_is : line ≡ kinds_line (row_at c.args.profile place) = c.line_of-line.ensures.line ∙ ap kinds_line c.in-Some.ensures.row.1 in
    let all : joined (take (place + 1) (kinds_lines c.args.profile)) ≡ front ++ line = lines_more c.args.profile place within ∙ ap (λ t. front ++ t) (sym line_is) in
    let count : length c.bytes-in-Ok.result.now ≡ length line = ap length c.bytes-in-Ok.ensures in
    record {
      few = omega (arith, within);
      small = omega (arith, c.lines.invariant.small, count, c.line_of-line.ensures.short);
      count = omega (arith, c.lines.invariant.count, count, ap length all, length-append front line);
      taken = rw all (Appends-trans _ _ _ front line c.lines.invariant.taken (rw c.bytes.ensures at c.in-Ok.ensures.ok));
    }

pub returns-in-Err : goal.returns-in-Err
returns-in-Err g c =
    let place = c.lines.place in
    let profile = c.args.profile in
    let within = c.in-Some.ensures.row.0 in
    let front = joined (take place (kinds_lines profile)) in
    let line = c.line_of-line.result in
    let line_is : line ≡ kinds_line (row_at profile place) = c.line_of-line.ensures.line ∙ ap kinds_line c.in-Some.ensures.row.1 in
    let more = c.in-Err.field-0.written in
    let part : more ≤ length line = rw c.bytes.ensures at c.in-Err.ensures.part in
    let part_is : more ≤ length (kinds_line (row_at profile place)) = rw line_is at part in
    let few : length line ≤ 80 = c.line_of-line.ensures.short in
    let taken = Appends-trans _ _ _ front (take more line) c.lines.invariant.taken (rw c.bytes.ensures at c.in-Err.ensures.err) in (
      length front + more,
      within_all profile place more within part_is,
      rw (first_bytes profile place more within part_is, ← line_is) taken,
      ap (λ n. n + more) c.lines.invariant.count ∙ sym (min-eq_left (omega (arith, part, few, within, few_rows profile, c.lines.invariant.small, c.lines.invariant.count))),
      c.in-Err.ensures.failed,
    )

pub returns : goal.returns
returns g c = (refl, rw (← lines_all c.args.profile c.lines.place c.in_default.ensures.row) c.lines.invariant.taken)
