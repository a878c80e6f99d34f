use Rattle.std.proofs.Common.{◌≡◌, ◌≤◌, pos, arith, to_z, w64, []}
use Rattle.std.proofs.lemmas.Int.{ints}
use Rattle.cg_text.proofs.signed.SignedTextToken.take.Goals as goal

pub overflow_cast-result : goal.overflow_cast-result
overflow_cast-result c =
    let all = rw c.in-Plain.is at c.args.self.bounded in
    let digits = rw c.in-Some.is at all.0 in
    let fits : c.take.result ≤ 9223372036854775807 = (digits [] c.take.result c.take.ensures.value).1 in
    omega (arith, ints)

pub returns-in-Some-clause-value : goal.returns-in-Some-clause-value
returns-in-Some-clause-value c =
    let all = rw c.in-Plain.is at c.args.self.bounded in
    let digits = rw c.in-Some.is at all.0 in
    let fits : c.take.result ≤ 9223372036854775807 = (digits [] c.take.result c.take.ensures.value).1 in
    let same : to_z w64 c.take.result ≡ pos c.take.result = omega (arith, ints) in
    rw (same, c.in-Plain.is, c.in-Some.is) c.take.ensures.value
