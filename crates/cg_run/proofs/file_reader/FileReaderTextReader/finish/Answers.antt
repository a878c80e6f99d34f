use Rattle.std.proofs.Common.{◌≡◌, ◌≢◌, [], sym, ◌∙◌, ap, arith, length, subst, eqb-true}
use Rattle.std.proofs.lemmas.Grind.{common_steps}
use Rattle.std.proofs.lemmas.List.{nil_from_length}
use Rattle.std.proofs.lemmas.Result.{err_from_is_err_and}
use Rattle.cg_value.specs.Files.{KindText}
use Rattle.cg_line.specs.Reads.{is_reads}
use Rattle.cg_run.proofs.FileText.{kept_printed}
use Rattle.cg_run.proofs.LetGo.{whole_same, none_behind}
use Rattle.cg_run.proofs.file_reader.FileReaderTextReader.finish.Goals as goal

pub returns-in-Err : goal.returns-in-Err
returns-in-Err c form taken settled =
    let h = settled.kept in
    λ whole. (c.in-Err.ensures form h.back h.reads).1 ((whole_same form h.front h.back taken h.let_go h.parts).1 whole)

pub returns-in_err-print_file : goal.returns-in_err-print_file
returns-in_err-print_file c form taken settled =
    let h = settled.kept in
    let e = err_from_is_err_and c.from_residual.result c.from_residual.ensures.1 in
    rw e.1 ((whole_same form h.front h.back taken h.let_go h.parts).0 (c.in-Ok.value, c.in-Ok.ensures form h.back h.reads))

pub returns-then-is_empty : goal.returns-then-is_empty
returns-then-is_empty c form taken settled =
    let h = settled.kept in
    let text = c.args.self.text in
    let zero = eqb-true _ _ (sym c.is_empty.ensures ∙ c.if-is_empty.true) in
    let none : taken ≡ [] = sym h.text ∙ nil_from_length text.items (omega (arith, zero, text.ok.0)) in
    let value = c.in-Ok.value in
    (value, subst (KindText form value) (none_behind h.front h.back taken h.parts none) (c.in-Ok.ensures form h.back h.reads), c.in_ok-print_file.ensures.text)

pub returns : goal.returns
returns c form taken settled =
    let h = settled.kept in
    let text = c.args.self.text.items in
    let whole = (whole_same form h.front h.back taken h.let_go h.parts).0 (c.in-Ok.value, c.in-Ok.ensures form h.back h.reads) in
    let some : text ≢ [] = λ e. absurd (let many = ap length e in grind (arith, common_steps)) in
    (whole.0, whole.1, kept_printed form whole.0 taken text (is_reads c.args.self.reader form h.back h.reads).form whole.1 h.text some)
