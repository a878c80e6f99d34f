use Rattle.std.proofs.Common.{◌≡◌, length, ap, arith}
use Rattle.cg_value.specs.LinesOfLaws.{lines_few}
use Rattle.cg_value.proofs.raw_lines.RawLines.lines.Goals as goal

pub returns-clause-few : goal.returns-clause-few
returns-clause-few c =
    let few = lines_few c.as_slice.result.now in
    let same : length c.as_slice.result.now ≡ length c.self.inside.text.items = ap length c.as_slice.ensures.value in
    omega (arith, few, same, c.len-bytes.ensures, c.len-bytes.type_inv)
