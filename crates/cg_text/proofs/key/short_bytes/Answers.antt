use Rattle.cg_text.specs.ListFacts.{front_kept}
use Rattle.cg_text.proofs.key.short_bytes.Goals as goal

pub returns-then-bytes-ge8 : goal.returns-then-bytes-ge8
returns-then-bytes-ge8 c = rw c.copy_from_slice.ensures.after (front_kept c.args.len 8 c.args.bytes.now _ c.if-len-le8.true c.requires.within)

pub returns-then-bytes-ge16 : goal.returns-then-bytes-ge16
returns-then-bytes-ge16 c = rw c.copy_from_slice-then-bytes-ge16.ensures.after (front_kept c.args.len 16 c.args.bytes.now _ c.if-len-le16.true c.requires.within)
