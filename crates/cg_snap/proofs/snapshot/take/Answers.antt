use Rattle.std.proofs.Common.{◌≡◌, [], ◌++◌, ℕ, List, Option, Some, vec_len, append-nil, take, sym, subst, ◌∙◌, arith}
use Rattle.std.proofs.lemmas.Bool.{eqb-true}
use Rattle.std.proofs.lemmas.List.{nil_from_length}
use Rattle.cg_snap.specs.DecoderState.{HasConsumed, HasConsumedInPath, IsBetween}
use Rattle.cg_snap.specs.declared.present.CurrentEntry.{CurrentEntry}
use Rattle.cg_snap.proofs.Finishes.{between_path}
use Rattle.cg_snap.proofs.snapshot.take.Goals as goal
use Rattle.cg_snap.proofs.snapshot.take.Goals.{in-Some+else-x+then-is_empty+else-used-gt0, in-Some+else-x+else-is_empty, in_default}

pub returns-then-x-clause-left : goal.returns-then-x-clause-left
returns-then-x-clause-left c = λ p es h at.
    let here = subst (λ (o : Option CurrentEntry). HasConsumed c.args.profile c.args.begun.now.items o p es) c.in-Some.is h in
    c.take_line.ensures.left c.args.profile p es here c.if-x.true at c.args.max_lines

pub returns-clause-few : goal.returns-clause-few
returns-clause-few c = λ p es h.
    let profile = c.args.profile in
    let begun = c.args.begun.now.items in
    let bytes = c.args.bytes.now in
    let between : IsBetween c.match-present.present = elim c.match-present.branch [
      | in-Some+else-x+then-is_empty+else-used-gt0 w ↦ rw w.present-is (w.take_again-used.ensures.between (omega (arith, w.if-used-gt0.false)))
      | in-Some+else-x+else-is_empty w ↦ rw w.present-is w.if-x.false
      | in_default w ↦ rw w.present-is (subst IsBetween (sym w.in_default.is) tt)
    ] in
    let here : HasConsumed profile begun c.match-present.present p es = elim c.match-present.branch [
      | in-Some+else-x+then-is_empty+else-used-gt0 w ↦ (
          let x = w.in-Some.x in
          let none : vec_len c.args.begun.now ≡ 0 = eqb-true _ _ (sym w.is_empty.ensures ∙ w.if-is_empty.true) in
          let empty : begun ≡ [] = nil_from_length begun (omega (arith, none, c.args.begun.now.ok.0)) in
          let a = subst (λ (b : List ℕ). HasConsumedInPath profile b x p es) empty (between_path profile begun c.args.present.now x p es w.in-Some.is w.if-x.false h) in
          let zero : w.take_again-used.result ≡ 0 = omega (arith, w.if-used-gt0.false) in
          let t = subst (λ (n : ℕ). HasConsumed profile [] (Some w.take_again-used.new.present) (p ++ take n bytes) es) zero (w.take_again-used.ensures.taken profile p es a) in
          rw (w.present-is, empty) (subst (λ (q : List ℕ). HasConsumed profile [] (Some w.take_again-used.new.present) q es) (append-nil p) t))
      | in-Some+else-x+else-is_empty w ↦ rw w.present-is (subst (λ (o : Option CurrentEntry). HasConsumed profile begun o p es) w.in-Some.is h)
      | in_default w ↦ rw w.present-is h
    ] in
    c.take_head.ensures.few p es here between
