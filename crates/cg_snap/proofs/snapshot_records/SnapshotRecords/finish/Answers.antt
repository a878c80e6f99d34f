use Rattle.std.proofs.Common.{◌≡◌, sym, ◌∙◌, length, ap, vec_len, arith}
use Rattle.std.proofs.lemmas.Bool.{eqb-true, eqb-false}
use Rattle.std.proofs.lemmas.List.{nil_from_length}
use Rattle.cg_snap.proofs.Finishes.{begun_cut, in_line_cut, between_path, last_entry}
use Rattle.cg_snap.proofs.snapshot_records.SnapshotRecords.finish.Goals as goal

pub returns-then-not-is_empty : goal.returns-then-not-is_empty
returns-then-not-is_empty c = λ profile p es h e. (
  e,
  begun_cut profile c.args.self.begun.items c.args.self.present p es h.at (λ n. let z : length
      c.args.self.begun.items ≡ 0 = ap length n in
      eqb-false _ _ (sym c.is_empty.ensures ∙ c.if-not-is_empty.true) (omega (arith, c.args.self.begun.ok.0))),
)

pub returns-then-x : goal.returns-then-x
returns-then-x c = λ profile p es h e. (e, in_line_cut profile c.args.self.begun.items c.args.self.present c.in-Some.x p es c.in-Some.is c.if-x.true h.at)

pub returns-in-Some-ended : goal.returns-in-Some-ended
returns-in-Some-ended c = λ profile p es h e.
    let s = c.args.self in
    let a = between_path profile s.begun.items s.present c.in-Some.x p es c.in-Some.is c.if-x.false h.at in
    let ends = c.in-Some-ended.ensures profile s.begun.items p es a in
    let empty = let z : vec_len s.begun ≡ 0 = eqb-true _ _ (sym c.is_empty.ensures ∙ c.if-not-is_empty.false) in nil_from_length s.begun.items (omega (arith, s.begun.ok.0)) in
    last_entry profile s.begun.items c.in-Some.x p es c.in-Some-ended.entry a empty ends.0 ends.1

pub returns : goal.returns
returns c = λ profile p es h e.
    let s = c.args.self in
    absurd (c.in-None-ended.ensures profile s.begun.items p es (between_path profile s.begun.items s.present c.in-Some.x p es c.in-Some.is c.if-x.false h.at))
