use Rattle.std.proofs.Common.{List, ap, map}
use Rattle.std.specs.Borrow.{Bor}
use Rattle.clap.specs.Words.{Text}
use Rattle.cg_program.proofs.words.parse_request.Goals as goal

pub returns : goal.returns
returns c = (
  c.as_slice.result,
  record {
    profiles = ap (λ (names : List (Bor Text)). map (λ name. name.now) names) c.as_slice.ensures;
    made = c.parse_named.ensures.made;
    right = c.parse_named.ensures.right;
    told = c.parse_named.ensures.told;
    taken = c.parse_named.ensures.taken;
  },
)
