use Rattle.cg_text.specs.RawLaws.{reason_begins, reason_byte_of}
use Rattle.cg_text.proofs.reason.ReasonTextToken.allows.Goals as goal

pub returns : goal.returns
returns c =
    let s = c.args.self.now in (
      λ e. reason_begins s.bytes.items c.args.byte s.raw (c.is_raw_byte.ensures.0 e),
      λ h. c.is_raw_byte.ensures.1 (reason_byte_of s.bytes.items h.0 h.1 c.args.byte h.2),
    )
