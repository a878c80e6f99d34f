use Rattle.std.proofs.Common.{sym, subst}
use Rattle.cg_value.specs.Files.{KindFile}
use Rattle.cg_run.proofs.file_reader.FileReaderTextReader.can_finish.Goals as goal

pub returns : goal.returns
returns c form taken h =
    let kept = h.kept in
    let same = kept.let_go.same kept.back in
    let can = c.can_finish.ensures form kept.back kept.reads in
    (λ t. subst (KindFile form) (sym kept.parts) (same.0 (can.0 t)), λ w. can.1 (same.1 (subst (KindFile form) kept.parts w)))
