use Rattle.std.proofs.Common.{◌≡◌, ◌∙◌, true, ap, arith, length, length-drop, sym, subst}
use Rattle.cg_value.specs.Files.{KindFile}
use Rattle.cg_run.specs.FileReader.{lines_alone}
use Rattle.cg_run.proofs.LetGo.{kept_since}
use Rattle.cg_run.proofs.file_reader.FileReader.is_due.Goals as goal

pub returns-then-since-lt-ROOM : goal.returns-then-since-lt-ROOM
returns-then-since-lt-ROOM c kind taken h =
    let s = c.args.self.now in
    (λ holds. absurd (cc), λ due. absurd (omega (arith, due.enough, length-drop s.before taken, ap length h.text, s.text.ok.0)))

pub returns-then-has_lines_alone : goal.returns-then-has_lines_alone
returns-then-has_lines_alone c kind taken h =
    let s = c.args.self.now in
    let same = kept_since s kind taken h in
    let is = c.can_finish.ensures kind h.back h.reads in (
      λ holds. record {
        enough = omega (arith, length-drop s.before taken, ap length h.text, s.text.ok.0);
        alone = ap lines_alone (sym h.of_kind) ∙ sym c.has_lines_alone.ensures ∙ c.if-has_lines_alone.true;
        whole = subst (KindFile kind) (sym same) (is.0 holds);
      },
      λ due. is.1 (subst (KindFile kind) same due.whole),
    )

pub returns-else-has_lines_alone : goal.returns-else-has_lines_alone
returns-else-has_lines_alone c kind taken h = (
  λ holds. absurd (cc),
  λ due.
      let alone : c.has_lines_alone.result ≡ true = c.has_lines_alone.ensures ∙ ap lines_alone h.of_kind ∙ due.alone in
      let lacks = c.if-has_lines_alone.false in
      absurd (cc),
)
