use Rattle.std.proofs.Common.{◌<◌, length, ◌≡◌}
use Rattle.cg_text.specs.Keyword.{text_of}
use Rattle.cg_text.specs.FixedLaws.{next_byte}
use Rattle.cg_text.proofs.keyword.KeywordTextToken.allows.Goals as goal

pub returns-then-self-text : goal.returns-then-self-text
returns-then-self-text c =
    let s = c.args.self.now in
    let same : c.text-text.result.now ≡ text_of s.keyword = c.text-text.ensures in
    let within : s.at < length (text_of s.keyword) = rw same at c.if-self-text.true in
    rw same (next_byte s.at (text_of s.keyword) c.args.byte within)
