use Rattle.std.proofs.Common.{◌<◌, nat_eq, arith}
use Rattle.std.proofs.lemmas.Bool.{eqb-false, ne_eqb, not-true, not_from_false}
use Rattle.cg_file.specs.RawFileLaws.{raw_file_begins}
use Rattle.cg_file.proofs.raw.RawFileToken.allows.Goals as goal

pub returns : goal.returns
returns c =
    let byte = c.args.byte in (
      λ e. let other = eqb-false byte 0 (not-true (nat_eq byte 0) e) in raw_file_begins c.args.self.now.text.items byte (omega (arith, other)) (omega (arith, c.ranges.byte.fits)),
      λ h. let some : 0 < byte = h.2.bytes.0 in not_from_false (nat_eq byte 0) (ne_eqb byte 0 (λ e. omega (arith, some, e))),
    )
