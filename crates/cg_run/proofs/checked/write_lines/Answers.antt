use Rattle.std.proofs.Common.{[], ◌∷◌, ◌++◌, ◌+◌, List, ℕ, map, take, drop, ap, ◌∙◌, append_assoc}
use Rattle.cg_run.specs.Check.{finding_line}
use Rattle.cg_outcome.specs.Outcome.{last_line}
use Rattle.cg_outcome.specs.declared.outcome.Outcome.TheVariants as out
use Rattle.cg_run.proofs.Checking.{left_behind, lines_after, lines_left}
use Rattle.cg_run.proofs.checked.write_lines.Goals as goal

pub returns-in-Err-write_part-clause-told : goal.returns-in-Err-write_part-clause-told
returns-in-Err-write_part-clause-told g c first parts h =
    let es = c.args.entries.now in
    let found = c.args.found.now in
    let i = c.loop-finding.finding-index in
    let done = map (finding_line es) (take i found) in
    let rest = map (finding_line es) (drop (i + 1) found) in
    let line = c.as_slice.ensures.value ∙ c.in-Ok.ensures in
    let part = c.as_slice.result.now ∷ [] in
    record {
      wanted = out.OutOfMemory;
      parts = (parts ++ done) ++ part;
      right = (
        rest,
        ap (λ (t : List (List ℕ)). t ++ rest) (append_assoc parts done part)
            ∙ left_behind parts (map (finding_line es) found) (done ++ part) rest (lines_after (finding_line es) found i _ c.as_slice.result.now c.loop-finding-test.true line),
      );
      wrote = c.in-Err-write_part.ensures.wrote first (parts ++ done) (c.loop-finding.invariant first parts h) (last_line out.OutOfMemory) out.OutOfMemory;
    }

pub returns-in-Err-clause-told : goal.returns-in-Err-clause-told
returns-in-Err-clause-told g c first parts h =
    let es = c.args.entries.now in
    let found = c.args.found.now in
    let i = c.loop-finding.finding-index in
    let done = map (finding_line es) (take i found) in
    record {
      wanted = out.OutOfMemory;
      parts = parts ++ done;
      right = (map (finding_line es) (drop i found), left_behind parts (map (finding_line es) found) done (map (finding_line es) (drop i found)) (lines_left (finding_line es) found i));
      wrote = c.write_after.ensures.wrote first (parts ++ done) (c.loop-finding.invariant first parts h);
    }
