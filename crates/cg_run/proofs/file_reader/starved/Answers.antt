use Rattle.std.proofs.Common.{◌≡◌, true, List, ℕ, append-nil, get_or, subst}
use Rattle.cg_text.specs.Texts.{Next}
use Rattle.cg_value.specs.Files.{KindFile}
use Rattle.cg_run.proofs.file_reader.starved.Goals as goal

pub returns-else-contains-clause-stops : goal.returns-else-contains-clause-stops
returns-else-contains-clause-stops c = λ kind taken reads.
    let byte = get_or c.args.bytes.now 0 0 in
    let none : Next (KindFile kind) taken byte → ⊥ = λ next. (
    let has : c.contains.result ≡ true = c.contains.ensures.1 ((c.allowed.ensures kind taken reads byte).1 next) in
    let lacks = c.if-contains.false in cc) in
    (c.requires, tt, λ next. none (subst (λ (t : List ℕ). Next (KindFile kind) t byte) (append-nil taken) next))
