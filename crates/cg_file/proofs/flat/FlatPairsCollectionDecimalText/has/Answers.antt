use Rattle.std.proofs.Common.{sym, ap, ◌∙◌, is_some, map, not}
use Rattle.cg_text.specs.WordState.{is_taken}
use Rattle.cg_join.specs.Distinct.{any_value}
use Rattle.cg_join.specs.TakenLaws.{taken_none}
use Rattle.cg_file.specs.FlatFileLaws.{taken_some}
use Rattle.cg_file.proofs.flat.FlatPairsCollectionDecimalText.has.Goals as goal

pub returns-then-not-is_empty : goal.returns-then-not-is_empty
returns-then-not-is_empty c =
    let pairs = c.args.self.now.building.pairs in
    let found = taken_some c.bytes-taken.result.now pairs (sym c.if-not-is_empty.true ∙ c.is_empty.ensures) in
    c.is_some.ensures ∙ ap is_some c.find.ensures.place ∙ found ∙ ap (λ taken. any_value (is_taken taken) (map (λ p. p.key) pairs)) c.bytes-taken.ensures

pub returns-else-not-is_empty : goal.returns-else-not-is_empty
returns-else-not-is_empty c =
    let pairs = c.args.self.now.building.pairs in
    let none = taken_none c.bytes-taken.result.now (map (λ p. p.key) pairs) (sym c.if-not-is_empty.false ∙ c.is_empty.ensures) in
    ap not c.if-not-is_empty.false ∙ none ∙ ap (λ taken. any_value (is_taken taken) (map (λ p. p.key) pairs)) c.bytes-taken.ensures
