use Rattle.cg_run.proofs.LetGo.{next_same}
use Rattle.cg_run.proofs.file_reader.FileReaderTextReader.allowed.Goals as goal

pub returns : goal.returns
returns c form taken settled byte =
    let h = settled.kept in
    let same = next_same form h.front h.back taken byte h.let_go h.parts in
    let behind = c.allowed.ensures form h.back h.reads byte in
    (λ has. same.0 (behind.0 has), λ next. behind.1 (same.1 next))
