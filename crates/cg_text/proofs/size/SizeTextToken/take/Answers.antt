use Rattle.std.proofs.Common.{[]}
use Rattle.cg_text.specs.NumberRest.{number_rest}
use Rattle.cg_text.specs.SizeLaws.{counted}
use Rattle.cg_text.proofs.size.SizeTextToken.take.Goals as goal

pub returns-in-Count-clause-value : goal.returns-in-Count-clause-value
returns-in-Count-clause-value c =
    let small = rw c.in-Count.is at c.args.self.small in
    let value = c.take.ensures.value in
    rw c.in-Count.is (counted (number_rest c.in-Count.number) [] c.take.result value (small [] c.take.result value))
