use Rattle.std.proofs.Common.{ℕ, [], true, ◌≡◌}
use Rattle.cg_text.specs.HundredthsState.{WholePart, whole_ends}
use Rattle.cg_text.specs.HundredthsLaws.{whole_digits, whole_dot, whole_dot_none, whole_ends_is, whole_is_one}
use Rattle.cg_text.proofs.hundredths.after.Goals as goal

pub returns-then-whole_ends-clause-follows : goal.returns-then-whole_ends-clause-follows
returns-then-whole_ends-clause-follows c =
    let most = c.args.most in
    let progress = c.in-Whole.progress in
    let ended : WholePart most progress [] c.whole_part.result = c.whole_part.ensures.value in
    let same = whole_dot c.args.form c.whole_part.result (WholePart most progress) ended (λ m h. whole_is_one most progress [] m c.whole_part.result h ended) (whole_digits most progress) in
    rw (c.in-Whole.is, c.if-byte-eq46.true) (λ rest v. (λ h. (h.0, (same rest v.count).0 h.1), λ h. (h.0, (same rest v.count).1 h.1)))

pub returns-else-whole_ends-clause-follows : goal.returns-else-whole_ends-clause-follows
returns-else-whole_ends-clause-follows c =
    let most = c.args.most in
    let progress = c.in-Whole.progress in
    let open_yet : (n : ℕ) → WholePart most progress [] n → ⊥ = λ n h. (let t : whole_ends most progress ≡ true = (whole_ends_is most progress).1 (n, h) in let f = c.if-whole_ends.false in let e = c.whole_ends.ensures in cc) in
    rw (c.in-Whole.is, c.if-byte-eq46.true) (λ rest v h. whole_dot_none c.args.form (WholePart most progress) (whole_digits most progress) open_yet rest v.count h.1)
