use Rattle.std.proofs.Common.{◌<◌, ◌≡◌, ◌∷◌, ◌++◌, length, arith, ap, sym, ◌∙◌, [], nat_eq}
use Rattle.cg_text.specs.ListLaws.{list_value, list_no_value, set_length}
use Rattle.cg_text.specs.RangesLaws.{begin_some, begin_none, nothing, some_of}
use Rattle.cg_text.specs.RangesState.{number_rest, begin_of, front}
use Rattle.cg_text.proofs.ranges.RangesTextToken.take.Goals as goal
use Rattle.cg_text.proofs.ranges.RangesTextToken.take.Goals.{then-not-is_empty, else-not-is_empty, in-Some, in-None}

pub returns-clause-value_size : goal.returns-clause-value_size
returns-clause-value_size c = elim c.if-not-is_empty.branch [
  | then-not-is_empty w ↦ (
      let some : 0 < length c.args.self.ranges.items = omega (arith, some_of _ c.is_empty.result c.is_empty.ensures w.if-not-is_empty.true, c.args.self.ranges.ok.0) in
      let same : length w.set_last.new.ranges.items ≡ length c.args.self.ranges.items = set_length c.args.self.ranges.items w.set_last.new.ranges.items (w.match-self.begin, w.take-end.result) some w.set_last.ensures.items in
      rw (c.of.ensures, w.ranges-is) (omega (arith, same)))
  | else-not-is_empty w ↦ rw (c.of.ensures, w.ranges-is) (omega arith)
]

pub returns-clause-value : goal.returns-clause-value
returns-clause-value c = elim c.if-not-is_empty.branch [
  | then-not-is_empty w ↦ (
      let s = c.args.self in
      let n = w.take-end.result in
      let b : w.match-self.begin ≡ begin_of s.low n = elim w.match-self.branch [ in-Some v ↦ v.begin-is ∙ sym (begin_some s.low v.in-Some.low n v.in-Some.is) | in-None v ↦ v.begin-is ∙ sym (begin_none s.low n v.in-None.is) ] in
      let e : w.set_last.new.ranges.items ≡ front s.ranges.items ++ (begin_of s.low n, n) ∷ [] = w.set_last.ensures.items ∙ ap (λ z. front s.ranges.items ++ (z, n) ∷ []) b in
      rw (c.of.ensures, w.ranges-is) (list_value s.strict s.ranges.items w.set_last.new.ranges.items s.most s.low (number_rest s.number) n w.take-end.ensures.value e))
  | else-not-is_empty w ↦ rw (c.of.ensures, w.ranges-is)
      (list_no_value c.args.self.strict c.args.self.ranges.items c.args.self.most c.args.self.low (number_rest c.args.self.number)
      (nothing (length c.args.self.ranges.items) c.is_empty.result
      (c.is_empty.ensures ∙ ap (λ z. nat_eq z 0) c.args.self.ranges.ok.0) w.if-not-is_empty.false))
]
