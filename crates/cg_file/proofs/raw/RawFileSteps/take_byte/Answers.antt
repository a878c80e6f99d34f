use Rattle.std.proofs.Common.{arith}
use Rattle.cg_text.specs.TokenLaws.{err_holds}
use Rattle.cg_file.specs.RawFileLaws.{raw_file_begins}
use Rattle.cg_file.proofs.raw.RawFileSteps.take_byte.Goals as goal

pub returns-in_err-push-clause-last : goal.returns-in_err-push-clause-last
returns-in_err-push-clause-last c =
    let other = c.if-byte-eq0.false in
    err_holds c.from_residual.result (raw_file_begins c.args.self.now.text.items c.args.byte (omega (arith, other)) (omega (arith, c.ranges.byte.fits)))
