use Rattle.cg_line.specs.PlaceLaws.{next_where_takes, takes_where_next}
use Rattle.cg_line.specs.RestsLaws.{some_is}
use Rattle.cg_line.specs.OpenReads.{is_open_reads}
use Rattle.cg_line.proofs.open_reader.OpenReader.takes_line.Goals as goal

pub returns-then-self : goal.returns-then-self
returns-then-self c kind taken h =
    let place = rw c.if-self.true at (is_open_reads c.args.self.now kind taken h).place in
    (λ e. absurd (cc), λ takes. absurd (place takes.not_begun))

pub returns : goal.returns
returns c kind taken h =
    let was = is_open_reads c.args.self.now kind taken h in
    let at = rw c.if-self.false at was.place in
    let some = some_is was.read in
    (λ e. (let byte = some.0 (c.goes_on.ensures.0 e) in takes_where_next kind taken byte.byte at byte.next), λ takes. c.goes_on.ensures.1 (some.1 (next_where_takes kind taken takes)))
