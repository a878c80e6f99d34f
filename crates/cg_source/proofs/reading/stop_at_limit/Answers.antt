use Rattle.std.proofs.Common.{◌≡◌, true, arith, length}
use Rattle.cg_text.specs.Texts.{TextOf, Next}
use Rattle.cg_source.proofs.Stops.{stop_refused, stop_too_much}
use Rattle.cg_source.proofs.reading.stop_at_limit.Goals as goal

pub returns-then-contains-clause-stops : goal.returns-then-contains-clause-stops
returns-then-contains-clause-stops g c form taken h e =
    let next = (c.allowed.ensures form taken h c.args.byte).0 (c.contains.ensures.0 c.if-contains.true) in
    rw e (stop_too_much (TextOf (g.T.TextReader.text form)) taken c.args.byte (g.met.T.TextReader.viable c.args.reader.now form taken h) next)

pub returns-else-contains-clause-stops : goal.returns-else-contains-clause-stops
returns-else-contains-clause-stops g c form taken h e =
    let none : Next (TextOf (g.T.TextReader.text form)) taken c.args.byte → ⊥ = λ next. (
    let has : c.contains.result ≡ true = c.contains.ensures.1 ((c.allowed.ensures form taken h c.args.byte).1 next) in
    let lacks = c.if-contains.false in cc) in
    rw e (stop_refused (TextOf (g.T.TextReader.text form)) (length taken) taken c.args.byte (g.met.T.TextReader.viable c.args.reader.now form taken h) (omega arith) none)
