use Rattle.std.proofs.Common.{◌≡◌, ◌+◌, ◌<◌, [], ◌∷◌, ◌++◌, length, take, ◌∙◌, ap, arith}
use Rattle.std.proofs.lemmas.List.{take_more}
use Rattle.cg_join.specs.PartRunLaws.{list_whole}
use Rattle.cg_join.specs.RepeatLaws.{stops_same, size_pushed}
use Rattle.cg_join.proofs.repeat.Repeat.take_item.Goals as goal

pub invariant_of-self-2 : goal.invariant_of-self-2
invariant_of-self-2 g c =
    let old = c.args.self.now in
    let v = c.in-Some.found.0 in
    let f = g.T.Token.value_size in
    let next = c.start.result in
    let items : c.put.new.items.items ≡ old.items.items ++ v ∷ [] = c.put.ensures ∙ ap (λ x. x ++ v ∷ []) c.make_room.ensures.items in
    record {
      stops = stops_same old.separator (g.S.MakeToken.texts old.start) (g.T.Token.means next) c.start.ensures.spells.is old.starts;
      starts = old.starts;
      filled = old.filled;
      room = λ e. absurd (let w = (g.T.Token.ends_is next).0 e in old.filled w.0 ((c.start.ensures.spells.is [] w.0).0 w.1));
      small = old.small;
    }

pub returns-clause-follows : goal.returns-clause-follows
returns-clause-follows g c =
    let old = c.args.self.now in
    let bytes = c.args.bytes.now in
    let v = c.in-Some.found.0 in
    let count = c.in-Some.found.1 in
    let front = c.in-Some.ensures.front in
    let items : c.put.new.items.items ≡ old.items.items ++ v ∷ [] = c.put.ensures ∙ ap (λ x. x ++ v ∷ []) c.make_room.ensures.items in
    let within : count < length bytes = omega (arith, front.0, c.if-count-bytes.false) in
    let taken : take (count + 1) bytes ≡ take count bytes ++ old.separator ∷ [] = take_more bytes count 0 within ∙ ap (λ b. take count bytes ++ b ∷ []) c.if-bytes-count.false in
    rw (items, taken)
    (list_whole old.separator (g.S.MakeToken.texts old.start) old.items.items (g.T.Token.means old.current) (g.T.Token.means c.start.result) c.start.ensures.spells.is old.stops (g.T.Token.one_value old.current) (take count bytes) v front.1)

pub returns-clause-size : goal.returns-clause-size
returns-clause-size g c =
    let old = c.args.self.now in
    let v = c.in-Some.found.0 in
    let f = g.T.Token.value_size in
    let items : c.put.new.items.items ≡ old.items.items ++ v ∷ [] = c.put.ensures ∙ ap (λ x. x ++ v ∷ []) c.make_room.ensures.items in
    omega (arith, size_pushed f c.put.new.items.items old.items.items v items, c.start.ensures.size, c.in-Some.ensures.size)
