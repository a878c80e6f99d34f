use Rattle.std.proofs.Common.{◌≡◌, vec_len, length, arith}
use Rattle.cg_text.specs.WordLaws.{lengthens_is, word_begins, word_lengthens}
use Rattle.cg_text.proofs.word.WordTextToken.allows.Goals as goal

pub returns : goal.returns
returns c =
    let s = c.args.self.now in
    let count : vec_len s.bytes ≡ length s.bytes.items = omega (arith, s.bytes.ok.0) in
    let is = lengthens_is s.controller c.is_empty.result s.bytes.items (vec_len s.bytes) c.args.byte count c.is_empty.ensures in (
      λ e. word_begins s.controller s.bytes.items c.args.byte s.sound (is.0 (c.may_stand.ensures.0 e)),
      λ h. c.may_stand.ensures.1 (is.1 (word_lengthens s.controller s.bytes.items c.args.byte h.0 h.1 h.2)),
    )
