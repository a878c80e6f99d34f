use Rattle.std.proofs.Common.{◌≡◌, ◌≤◌, false, [], ◌∷◌, ◌++◌, length, ◌∙◌, ap, arith}
use Rattle.std.proofs.lemmas.List.{take_all}
use Rattle.cg_join.specs.RepeatLaws.{size_pushed}
use Rattle.cg_join.specs.WholeLineLaws.{lines_whole}
use Rattle.cg_join.proofs.lines.Lines.take_line.Goals as goal

pub invariant_of-self-2 : goal.invariant_of-self-2
invariant_of-self-2 g c =
    let old = c.args.self.now in
    let v = c.in-Some.found.0 in
    let f = g.T.Token.value_size in
    let items : c.put.new.items.items ≡ old.items.items ++ v ∷ [] = c.put.ensures ∙ ap (λ x. x ++ v ∷ []) c.make_room.ensures.items in
    record {
      lacks = old.lacks;
      starts = old.starts;
      small = old.small;
      fresh = old.fresh;
    }

pub returns-clause-taken : goal.returns-clause-taken
returns-clause-taken g c _ =
    let old = c.args.self.now in
    let R = g.S.MakeToken.texts old.start in
    let line = c.args.line.now in
    let v = c.in-Some.found.0 in
    let items : c.put.new.items.items ≡ old.items.items ++ v ∷ [] = c.put.ensures ∙ ap (λ x. x ++ v ∷ []) c.make_room.ensures.items in
    let far : length line ≤ c.in-Some.found.1 = omega (arith, c.if-count-line.false) in
    let front = c.in-Some.ensures.front in
    let whole = rw (take_all c.in-Some.found.1 line far) at front.1 in
    let text = (c.start-token.ensures.spells.is line v).0 whole in
    rw (items, c.if-self.false, c.if-end-self.false)
    (lines_whole old.end R R R (λ rest u. (λ h. h, λ h. h)) old.starts (g.S.MakeToken.one_text old.start) line v text false old.items.items)

pub returns-clause-size : goal.returns-clause-size
returns-clause-size g c =
    let old = c.args.self.now in
    let v = c.in-Some.found.0 in
    let f = g.T.Token.value_size in
    let items : c.put.new.items.items ≡ old.items.items ++ v ∷ [] = c.put.ensures ∙ ap (λ x. x ++ v ∷ []) c.make_room.ensures.items in
    omega (arith, size_pushed f c.put.new.items.items old.items.items v items, c.start-token.ensures.size, c.in-Some.ensures.size, c.in-Some.ensures.front.0)
