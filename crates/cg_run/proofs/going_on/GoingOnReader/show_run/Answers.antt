use Rattle.std.proofs.Common.{◌≡◌, ◌++◌, ◌∙◌, ℕ, List, take, drop, map, refl, sym, ap, subst, append_assoc, arith}
use Rattle.std.proofs.lemmas.List.{take-append-drop, take-take}
use Rattle.cg_run.specs.EntryRun.{AreRun}
use Rattle.cg_outcome.specs.Lines.{AreBehind}
use Rattle.cg_run.specs.ShownBytes.{CutsOff}
use Rattle.cg_run.specs.Stream.{shown_part}
use Rattle.cg_run.specs.declared.going_on.GoingOnReader.{GoingOnReader}
use Rattle.cg_run.proofs.EntryRuns.{run_given, run_shown, run_some, run_starved}
use Rattle.cg_run.proofs.Finds.{no_more}
use Rattle.cg_run.proofs.going_on.GoingOnReader.show_run.Goals as goal

pub returns-in-Ok-clause-shown : goal.returns-in-Ok-clause-shown
returns-in-Ok-clause-shown g c form explain p parts shows begins h =
    let was = c.args.self.now in
    let piece = c.args.piece.now in
    let at = c.args.at in
    let used = c.pass_run-run.result.used in
    let run = c.pass_run-run.ensures.passed form p h.found h.taken begins in
    let bytes = c.split_at-2.result.1.now in
    let bytes_are : bytes ≡ drop c.pass_run-run.result.begin (take c.pass_run-run.result.end piece) = c.split_at-2.ensures.back ∙ ap (λ (t : List ℕ). drop c.pass_run-run.result.begin t) c.split_at.ensures.front in
    let kept = c.append_closed.new.text.items in
    let appended = c.in-Ok.ensures in
    let lines = run_shown bytes kept (appended.0) run.entries (subst (λ (t : List ℕ). AreRun t run.entries) (sym bytes_are) run.run) (subst (λ (t : List ℕ). CutsOff t kept bytes (appended.0)) c.clear.ensures.items appended.2) in
    let rest = c.split_at-in-Ok-2.result.1.now in
    let on : p ++ take used piece ≡ (p ++ take at piece) ++ rest =
    ap (λ (t : List ℕ). p ++ t)
    (sym (take-append-drop at (take used piece)) ∙ ap (λ (t : List ℕ). t ++ drop at (take used piece)) (take-take at used piece c.pass_run-run.ensures.some)
    ∙ ap (λ (t : List ℕ). take at piece ++ t) (sym (c.split_at-in-Ok-2.ensures.back ∙ ap (λ (t : List ℕ). drop at t) c.split_at-in-Ok.ensures.front)))
    ∙ sym (append_assoc p (take at piece) rest) in
    let now : GoingOnReader g.row.T.Denot = record { decoder = c.pass_run-run.new.decoder; teller = was.teller; text = c.append_closed.new.text; left_out = was.left_out; lines = c.lines_behind-self.result } in
    record {
      more = map shown_part run.entries;
      out_is = appended.1 ∙ ap (λ (t : List ℕ). c.args.out.now.items ++ t) lines;
      leads = run_given g.T.Teller.parts g.T.Teller.keeps form explain p piece parts was now at used shows h run.entries rest on run.taken refl refl
          (subst (AreBehind c.lines_behind-self.result) (sym on) (c.lines_behind-self.ensures.counted (p ++ take at piece) h.lines)) c.lines_behind-self.ensures.same;
    }

pub returns-in-Ok-clause-goes : goal.returns-in-Ok-clause-goes
returns-in-Ok-clause-goes g c lt = omega (arith, lt, c.pass_run-run.ensures.some)

pub returns-in-Err-clause-shown : goal.returns-in-Err-clause-shown
returns-in-Err-clause-shown g c form explain p parts shows begins h =
    let was = c.args.self.now in
    let piece = c.args.piece.now in
    let at = c.args.at in
    let used = c.pass_run-run.result.used in
    let run = c.pass_run-run.ensures.passed form p h.found h.taken begins in
    let bytes = c.split_at-2.result.1.now in
    let bytes_are : bytes ≡ drop c.pass_run-run.result.begin (take c.pass_run-run.result.end piece) = c.split_at-2.ensures.back ∙ ap (λ (t : List ℕ). drop c.pass_run-run.result.begin t) c.split_at.ensures.front in
    let on : p ++ take used piece ≡ (p ++ take at piece) ++ drop at (take used piece) =
    ap (λ (t : List ℕ). p ++ t) (sym (take-append-drop at (take used piece)) ∙ ap (λ (t : List ℕ). t ++ drop at (take used piece)) (take-take at used piece c.pass_run-run.ensures.some))
    ∙ sym (append_assoc p (take at piece) (drop at (take used piece))) in
    let now : GoingOnReader g.row.T.Denot = record { decoder = c.pass_run-run.new.decoder; teller = was.teller; text = c.append_closed.new.text; left_out = was.left_out; lines = was.lines } in
    no_more c.in-Err.ensures.0
    (run_starved g.T.Teller.parts g.T.Teller.keeps form explain p piece parts was now at used shows h run.entries (drop at (take used piece)) on run.taken
    (run_some bytes run.entries (subst (λ (t : List ℕ). AreRun t run.entries) (sym bytes_are) run.run) c.in-Err.ensures.1))
