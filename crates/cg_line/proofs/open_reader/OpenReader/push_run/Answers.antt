use Rattle.std.proofs.Common.{◌≡◌, ◌<◌, ◌+◌, ◌-◌, ◌++◌, [], inl, append-nil, length, take, arith}
use Rattle.cg_file.specs.contracts.any_file.AnyFileToken.TheImpl.{ghosts}
use Rattle.cg_text.specs.Texts.{TextOf}
use Rattle.cg_value.specs.Files.{KindFile}
use Rattle.cg_line.specs.Place.{IsPlace}
use Rattle.cg_line.specs.Rests.{IsAfter}
use Rattle.cg_line.specs.RestsLaws.{goes_on, leaves_run_as}
use Rattle.cg_line.specs.RunsLaws.{run_more, run_piece}
use Rattle.cg_line.specs.OpenReads.{OpenReads}
use Rattle.cg_line.specs.OpenReadsLaws.{took_on, took_read}
use Rattle.cg_line.specs.declared.open_reader.OpenReader.{OpenReader}
use Rattle.cg_line.proofs.open_reader.OpenReader.push_run.Goals as goal

pub returns-then-run-gt0-clause-pushed : goal.returns-then-run-gt0-clause-pushed
returns-then-run-gt0-clause-pushed c kind taken h =
    let old = c.args.self.now in
    let new : OpenReader = record { text = c.push_run_to-run.new.text; in_line = c.is_in_line-self.result } in
    let bytes = c.args.bytes.now in
    let run = c.push_run_to-run.result in
    let pushed = c.push_run_to-run.ensures.pushed in
    let i = run.used - 1 in
    let last : i + 1 ≡ run.used = omega (arith, c.if-run-gt0.true) in
    let within : i < length bytes = omega (arith, c.if-run-gt0.true, c.push_run_to-run.ensures.within) in
    let place = rw last at (run_more (IsPlace new.in_line) taken bytes i within (c.is_in_line-self.ensures (taken ++ take i bytes))) in
    leaves_run_as (TextOf (ghosts.means old.text)) (KindFile kind) taken (goes_on (took_read old kind taken h)) (IsAfter ghosts.means ghosts.size old.text new.text) (OpenReads new kind) bytes run
    (λ after. took_on old new kind taken (take run.used bytes) after (run_piece (TextOf (ghosts.means old.text)) [] bytes run.used run.fault pushed.stops) (λ was. place) h) pushed

pub returns-else-run-gt0-clause-pushed : goal.returns-else-run-gt0-clause-pushed
returns-else-run-gt0-clause-pushed c kind taken h =
    let old = c.args.self.now in
    let new : OpenReader = record { text = c.push_run_to-run.new.text; in_line = old.in_line } in
    let bytes = c.args.bytes.now in
    let run = c.push_run_to-run.result in
    let none : run.used ≡ 0 = omega (arith, c.if-run-gt0.false) in
    leaves_run_as (TextOf (ghosts.means old.text)) (KindFile kind) taken (goes_on (took_read old kind taken h)) (IsAfter ghosts.means ghosts.size old.text new.text) (OpenReads new kind) bytes run
    (λ after. took_on old new kind taken (take run.used bytes) after (inl (rw none tt)) (λ was. rw (none, append-nil taken) was) h) c.push_run_to-run.ensures.pushed
