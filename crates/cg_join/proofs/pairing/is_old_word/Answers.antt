use Rattle.std.proofs.Common.{map, ◌∙◌, ap}
use Rattle.cg_text.specs.WordState.{is_taken}
use Rattle.cg_join.specs.Distinct.{any_value}
use Rattle.cg_join.proofs.pairing.is_old_word.Goals as goal

pub returns : goal.returns
returns g c = c.has.ensures ∙ ap (λ f. any_value (is_taken c.args.word.now.bytes.items) (map f c.args.items.now.items)) g.met.F.Pairing.keyed
