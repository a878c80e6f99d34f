use Rattle.std.proofs.Common.{map, not, sym, ◌∙◌, ap}
use Rattle.cg_text.specs.WordState.{is_taken}
use Rattle.cg_join.specs.Distinct.{any_value}
use Rattle.cg_join.specs.TakenLaws.{taken_none, taken_some}
use Rattle.cg_join.proofs.words.has.Goals as goal

pub returns-then-not-is_empty : goal.returns-then-not-is_empty
returns-then-not-is_empty g c =
    let keys = map g.T.HasKey.key_of c.args.items.now.items in
    c.has.ensures ∙ taken_some c.bytes-taken.result.now keys (sym c.if-not-is_empty.true ∙ c.is_empty.ensures) ∙ ap (λ taken. any_value (is_taken taken) keys) c.bytes-taken.ensures

pub returns-else-not-is_empty : goal.returns-else-not-is_empty
returns-else-not-is_empty g c =
    let keys = map g.T.HasKey.key_of c.args.items.now.items in
    ap not c.if-not-is_empty.false ∙ taken_none c.bytes-taken.result.now keys (sym c.if-not-is_empty.false ∙ c.is_empty.ensures) ∙ ap (λ taken. any_value (is_taken taken) keys) c.bytes-taken.ensures
