use Rattle.std.proofs.Common.{rules, ℕ, ◌<◌, length, get_or, sym, ◌∙◌, true≢false, arith}
use Rattle.cg_value.specs.PathLaws.{path_bytes, path_lacks_nul, path_lacks_newline, path_of}
use Rattle.cg_value.proofs.path.is_path.Goals as goal

pub returns-then-has_no : goal.returns-then-has_no
returns-then-has_no c =
    let path = c.args.path.now in
    let some : 0 < length path = search rules in
    let rest = c.has_no-then-has_no.ensures in
    let bytes : (k : ℕ) → k < length path → get_or path k 0 < 256 = λ k h. omega (arith, c.type_inv.path k) in (
      λ t. path_of path some c.if-path-eq47.false (path_bytes path bytes (c.has_no.ensures.0 c.if-has_no.true) (rest.0 t)),
      λ p. rest.1 (path_lacks_newline path p),
    )

pub returns-else-has_no : goal.returns-else-has_no
returns-else-has_no c = (
  λ t. absurd (true≢false (sym t ∙ c.if-has_no.false)),
  λ p. absurd (true≢false (sym (c.has_no.ensures.1 (path_lacks_nul c.args.path.now p)) ∙ c.if-has_no.false)),
)
