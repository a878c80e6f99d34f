use Rattle.std.proofs.Common.{◌≡◌, ◌<◌, ◌+◌, ℕ, zero, suc, List, [], ◌∷◌, get_or, length, take, drop, sym, ◌∙◌, ap, arith}
use Rattle.std.proofs.lemmas.Result.{err_from_is_err_and}
use Rattle.cg_value.specs.Lines.{unlines}
use Rattle.cg_line.specs.UpgradingLaws.{next_plain, next_stopped, next_taken}
use Rattle.cg_line.proofs.upgrading.take_lines.Goals as goal

-- The first of the lines that are left.
first_left : (lines : List (List ℕ)) (i : ℕ) (line : List ℕ) (rest : List (List ℕ)) → line ∷ rest ≡ drop i lines → i < length lines → (line ≡ get_or lines i []) × (rest ≡ drop (i + 1) lines)
first_left [] i line rest e h = absurd (omega (arith, h))
first_left (x ∷ xs) zero line rest e h = (ap (λ l. get_or l 0 []) e, ap (λ l. drop 1 l) e)
first_left (x ∷ xs) (suc i) line rest e h =
    let k = first_left xs i line rest e (omega (arith, h)) in
    let next : suc i + 1 ≡ suc (i + 1) = omega arith in
    (k.0, rw next k.1)

pub loop-line-preserved : goal.loop-line-preserved
loop-line-preserved c =
    let i = c.loop-line.number in
    let lines = c.args.lines.now in
    let line = c.in-Some.line.now in
    let inv = c.loop-line.invariant in
    let step = c.in-Some.ensures.steps in
    let count = ap length step in
    let within : i < length lines = omega (arith, inv.2, count) in
    let first = first_left lines i line c.next.new.self (sym step ∙ inv.1) within in (
      λ kind h plain. next_taken kind lines i line within first.0 c.take_line.new.reader (c.in_ok-take_line.ensures kind (unlines (take i lines)) (inv.0 kind h plain) (next_plain kind lines i line within first.0 plain)),
      first.1,
      omega (arith, inv.2, count),
      inv.3,
    )

pub returns-in_err-take_line : goal.returns-in_err-take_line
returns-in_err-take_line c kind h plain =
    let i = c.loop-line.number in
    let lines = c.args.lines.now in
    let line = c.in-Some.line.now in
    let inv = c.loop-line.invariant in
    let step = c.in-Some.ensures.steps in
    let count = ap length step in
    let within : i < length lines = omega (arith, inv.2, count) in
    let first = first_left lines i line c.next.new.self (sym step ∙ inv.1) within in
    let e = err_from_is_err_and c.from_residual.result c.from_residual.ensures.1 in
    let same : e.0 ≡ c.in_err-take_line.field-0.0 = e.2 in
    rw (e.1, same) (next_stopped kind lines i line within first.0 c.take_line.new.reader c.in_err-take_line.field-0.0
    (c.in_err-take_line.ensures kind (unlines (take i lines)) (inv.0 kind h plain) (next_plain kind lines i line within first.0 plain)))
