use Rattle.std.proofs.Common.{◌++◌}
use Rattle.cg_text.specs.Texts.{TextOf}
use Rattle.cg_source.proofs.Took.{Consumes-trans, Consumes-kept, ended_piece, goes_unstopped}
use Rattle.cg_source.proofs.reading.read_all.Goals as goal

pub returns-in-Err-clause-read : goal.returns-in-Err-clause-read
returns-in-Err-clause-read g c form h fresh counted =
    let before = c.reads.invariant.read form h fresh counted in
    let reader = c.reads.reader in
    record {
      read = before.read;
      consumed = Consumes-kept _ (g.R.Source.coming c.reads.source) _ before.read before.consumed c.in-Err.ensures.bytes.0;
      ends = (goes_unstopped (TextOf (g.T.TextReader.text form)) (g.T.TextReader.took reader form) (g.met.T.TextReader.viable reader form) c.args.max before.read before.goes_on, c.in-Err.ensures.bytes.1);
      behind = tt;
    }

pub returns-in-Some-clause-read : goal.returns-in-Some-clause-read
returns-in-Some-clause-read g c form h fresh counted =
    let before = c.reads.invariant.read form h fresh counted in
    let piece = c.split_at.result.0.now in
    record {
      read = before.read ++ piece;
      consumed = Consumes-trans _ (g.R.Source.coming c.reads.source) _ before.read piece before.consumed (rw c.split_at.ensures.front c.in-Ok.ensures.bytes.1);
      ends = ended_piece (TextOf (g.T.TextReader.text form)) c.args.max before.read piece (g.T.TextReader.took c.take_piece.new.reader form) (g.R.Source.coming c.pull.new.self) (g.R.Source.has_failed c.pull.new.self) c.in-Some.ending
          (c.in-Some.ensures.took form before.read before.place before.goes_on);
      behind = c.in-Some.ensures.behind before.read before.place before.behind;
    }
