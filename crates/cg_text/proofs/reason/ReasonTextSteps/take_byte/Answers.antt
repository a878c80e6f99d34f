use Rattle.std.proofs.Common.{◌≡◌, true}
use Rattle.cg_text.specs.RawLaws.{raw_pushed, reason_byte_of, reason_begins}
use Rattle.cg_text.specs.TokenLaws.{err_holds}
use Rattle.cg_text.proofs.reason.ReasonTextSteps.take_byte.Goals as goal

pub returns-then-not-is_raw_byte-clause-refused : goal.returns-then-not-is_raw_byte-clause-refused
returns-then-not-is_raw_byte-clause-refused c =
    let s = c.args.self.now in
    λ rest reason h. (
    let taken : c.is_raw_byte.result ≡ true = c.is_raw_byte.ensures.1 (reason_byte_of s.bytes.items rest reason c.args.byte h) in
    let refused = c.if-not-is_raw_byte.true in
    cc)

pub invariant_of-self : goal.invariant_of-self
invariant_of-self c =
    let s = c.args.self.now in
    record { raw = raw_pushed _ s.bytes.items _ c.args.byte c.push.ensures.items s.raw (c.is_raw_byte.ensures.0 c.if-not-is_raw_byte.false) }

pub returns-in_err-push-clause-last : goal.returns-in_err-push-clause-last
returns-in_err-push-clause-last c =
    let s = c.args.self.now in
    err_holds c.from_residual.result (reason_begins s.bytes.items c.args.byte s.raw (c.is_raw_byte.ensures.0 c.if-not-is_raw_byte.false))
