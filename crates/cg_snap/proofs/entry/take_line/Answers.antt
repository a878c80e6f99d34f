use Rattle.std.proofs.Common.{◌+◌, ◌++◌, ℕ, List, take, refl, subst}
use Rattle.std.proofs.lemmas.Bool.{iff_false}
use Rattle.cg_line.specs.Reads.{Reads}
use Rattle.cg_value.specs.Files.{KindFile}
use Rattle.cg_value.specs.Lines.{unlines}
use Rattle.cg_value.specs.declared.kind.ReadForm.{ReadForm}
use Rattle.cg_snap.proofs.Faults.{ended_event, part_leaves}
use Rattle.cg_snap.proofs.Runs.{cut_ended, cut_plain, line_few, line_part}
use Rattle.cg_snap.proofs.Sounds.{sound_after}
use Rattle.cg_snap.proofs.States.{line_at_once, line_state}
use Rattle.cg_snap.proofs.entry.take_line.Goals as goal
use Rattle.cg_snap.proofs.entry.take_line.Goals.{then-ends_line, else-ends_line}

pub invariant_of-present : goal.invariant_of-present
invariant_of-present c =
    let x = c.args.present.now in
    record { sound = sound_after x.path.items x.reader c.push_run-run.new.self x.sound (λ k s r. (s ++ take c.push_run-run.result.used c.args.bytes.now, (c.push_run-run.ensures.pushed k s r).reads)) }

pub invariant_of-present-else-ends_line : goal.invariant_of-present-else-ends_line
invariant_of-present-else-ends_line c =
    let x = c.args.present.now in
    record { sound = sound_after x.path.items x.reader c.push_run-run.new.self x.sound (λ k s r. (s ++ take c.push_run-run.result.used c.args.bytes.now, (c.push_run-run.ensures.pushed k s r).reads)) }

pub returns-clause-left : goal.returns-clause-left
returns-clause-left c = λ profile p es h t at max.
    let begun = c.args.begun.now.items in
    let x = c.args.present.now in
    let bytes = c.args.bytes.now in
    let run = c.push_run-run in
    let used = run.result.used in
    let part = line_part profile begun x p es run.new.self bytes run.result h t run.ensures.pushed in
    let stops = (λ (k : ReadForm) (s : List ℕ) (r : Reads x.reader k s). (run.ensures.pushed k s r).stops) in
    elim c.if-ends_line.branch [
      | then-ends_line w ↦ (let line = cut_ended bytes used run.ensures.within part (c.ends_line.ensures.0 w.if-ends_line.true) in
          let l = line_state profile begun x p es t h in
          let none = ended_event (KindFile l.kind) (unlines l.lines ++ l.line) bytes used (c.args.at + used) run.result.fault c.line_event.result line (stops l.kind (unlines l.lines ++ l.line) l.reads) c.line_event.ensures in
          rw (w.present-is, none) (line_at_once profile begun x _ p es line.0 (take used bytes) line.1 t h line.2 refl w.saturating_add-present.ensures refl
          (λ k s r. subst (λ (b : List ℕ). Reads run.new.self k (s ++ b)) line.1 (run.ensures.pushed k s r).reads)))
      | else-ends_line w ↦ rw w.present-is (part_leaves profile begun x _ p es bytes used max c.args.at h t run.ensures.within refl refl t (λ k s r. (run.ensures.pushed k s r).reads)
          run.result.fault c.line_event.result at (cut_plain bytes used run.ensures.within part (iff_false c.ends_line.ensures w.if-ends_line.false)) stops c.line_event.ensures)
    ]

pub returns-clause-few : goal.returns-clause-few
returns-clause-few c = λ profile p es h t max.
    let run = c.push_run-run in
    line_few profile max c.args.begun.now.items c.args.present.now p (take run.result.used c.args.bytes.now) es h t
    (line_part profile c.args.begun.now.items c.args.present.now p es run.new.self c.args.bytes.now run.result h t run.ensures.pushed)
