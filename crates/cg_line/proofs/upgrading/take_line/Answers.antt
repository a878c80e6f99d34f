use Rattle.std.proofs.Common.{[], ◌∷◌, ◌++◌, subst, append_assoc}
use Rattle.cg_line.specs.Reads.{Reads}
use Rattle.cg_line.specs.UpgradingLaws.{line_run, line_stopped, newline_stopped}
use Rattle.cg_line.proofs.upgrading.take_line.Goals as goal

pub returns-in-Some : goal.returns-in-Some
returns-in-Some c kind before h plain =
    let pushed = c.push_run-run.ensures.pushed kind before h in
    let stops = rw c.in-Some.is at pushed.stops in
    rw c.fault_at.ensures (line_stopped kind c.push_run-run.new.self c.push_run-run.new.self before c.args.line.now c.args.number c.push_run-run.result.used c.in-Some.fault pushed.reads stops)

pub returns-in-Ok : goal.returns-in-Ok
returns-in-Ok c kind before h plain =
    let line = c.args.line.now in
    let pushed = c.push_run-run.ensures.pushed kind before h in
    let stops = rw c.in_default.is at pushed.stops in
    let run = line_run kind c.push_run-run.new.self before line c.push_run-run.result.used plain pushed.reads stops in
    subst (λ t. Reads c.push.new.self kind t) (append_assoc before line (10 ∷ [])) (c.in-Ok.ensures.pushed kind (before ++ line) run)

pub returns-in-Err : goal.returns-in-Err
returns-in-Err c kind before h plain =
    let line = c.args.line.now in
    let pushed = c.push_run-run.ensures.pushed kind before h in
    let stops = rw c.in_default.is at pushed.stops in
    let run = line_run kind c.push_run-run.new.self before line c.push_run-run.result.used plain pushed.reads stops in
    rw c.fault_at-in-Err.ensures (newline_stopped kind c.push.new.self c.push.new.self before line c.args.number c.in-Err.fault (c.in-Err.ensures.pushed kind (before ++ line) run))
