use Rattle.std.proofs.Common.{[], refl, append-nil}
use Rattle.cg_outcome.specs.Kinds.{kinds_lines}
use Rattle.cg_outcome.specs.Wrote.{joined}
use Rattle.cg_outcome.specs.declared.outcome.Outcome.TheVariants as out
use Rattle.cg_source.proofs.Took.{Consumes-nil}
use Rattle.cg_run.proofs.running.run_with.Goals as goal

pub returns-in-File-clause-ran : goal.returns-in-File-clause-ran
returns-in-File-clause-ran g c fresh =
    let h = c.run_file.ensures.ran fresh c.lines_of-lines.ensures.behind in
    record {
      read = h.read;
      consumed = h.consumed;
      wanted = h.wanted;
      parts = h.parts;
      right = rw (c.in-File.is, ← c.as_slice.ensures.value) h.right;
      more = h.more;
      tells = rw (c.in-File.is, ← c.lines_of-lines.ensures.same, ← c.as_slice.ensures.value) h.tells;
      wrote = h.wrote;
    }

pub returns-in-Setting-clause-ran : goal.returns-in-Setting-clause-ran
returns-in-Setting-clause-ran g c fresh =
    let h = c.run_setting.ensures.ran fresh c.lines_of-lines.ensures.behind in
    record {
      read = h.read;
      consumed = h.consumed;
      wanted = h.wanted;
      parts = h.parts;
      right = rw (c.in-Setting.is, ← c.as_slice-in-Setting.ensures.value) h.right;
      more = h.more;
      tells = rw (c.in-Setting.is, ← c.lines_of-lines.ensures.same, ← c.as_slice-in-Setting.ensures.value) h.tells;
      wrote = h.wrote;
    }

pub returns-in-Plan-clause-ran : goal.returns-in-Plan-clause-ran
returns-in-Plan-clause-ran g c fresh =
    let h = c.run_stream.ensures.ran (c.args.profile, c.args.limits) refl c.new.ensures fresh c.lines_of-lines.ensures.behind in
    record {
      read = h.read;
      consumed = h.consumed;
      wanted = h.wanted;
      parts = h.parts;
      right = rw (c.in-Plan.is) h.right;
      more = h.more;
      tells = rw (c.in-Plan.is, ← c.lines_of-lines.ensures.same) h.tells;
      wrote = h.wrote;
    }

pub returns-in-Show-clause-ran : goal.returns-in-Show-clause-ran
returns-in-Show-clause-ran g c fresh =
    let h = c.run_show.ensures.ran fresh c.lines_of-lines.ensures.behind in
    record {
      read = h.read;
      consumed = h.consumed;
      wanted = h.wanted;
      parts = h.parts;
      right = rw (c.in-Show.is, ← c.lines_of-lines.ensures.same) h.right;
      more = h.more;
      tells = rw (c.in-Show.is, ← c.lines_of-lines.ensures.same) h.tells;
      wrote = h.wrote;
    }

pub returns-in-Json-clause-ran : goal.returns-in-Json-clause-ran
returns-in-Json-clause-ran g c fresh =
    let h = c.run_json.ensures.ran fresh c.lines_of-lines.ensures.behind in
    record {
      read = h.read;
      consumed = h.consumed;
      wanted = h.wanted;
      parts = h.parts;
      right = rw (c.in-Json.is) h.right;
      more = h.more;
      tells = rw (c.in-Json.is, ← c.lines_of-lines.ensures.same) h.tells;
      wrote = h.wrote;
    }

pub returns-in-Check-clause-ran : goal.returns-in-Check-clause-ran
returns-in-Check-clause-ran g c fresh =
    let h = c.run_checked.ensures.ran fresh c.lines_of-lines.ensures.behind in
    record {
      read = h.read;
      consumed = h.consumed;
      wanted = h.wanted;
      parts = h.parts;
      right = rw (c.in-Check.is, ← c.lines_of-lines.ensures.same) h.right;
      more = h.more;
      tells = rw (c.in-Check.is, ← c.lines_of-lines.ensures.same) h.tells;
      wrote = h.wrote;
    }

pub returns-in-Kinds-clause-ran : goal.returns-in-Kinds-clause-ran
returns-in-Kinds-clause-ran g c fresh = record {
  read = [];
  consumed = Consumes-nil (g.R.Source.coming c.args.reader.now);
  wanted = out.Done;
  parts = kinds_lines c.args.profile;
  right = rw c.in-Kinds.is (record { outcome = refl; unread = refl; lines = refl });
  more = [];
  tells = rw c.in-Kinds.is refl;
  wrote = rw (append-nil (joined (kinds_lines c.args.profile))) c.told_kinds.ensures;
}
