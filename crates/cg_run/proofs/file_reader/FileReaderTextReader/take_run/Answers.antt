use Rattle.std.proofs.Common.{◌≡◌, List, ℕ, ◌++◌, true, refl, ap₂, ◌∙◌, subst}
use Rattle.cg_value.specs.Files.{KindFile}
use Rattle.cg_run.specs.FileReader.{IsSettled}
use Rattle.cg_source.specs.TextReader.{IsRunTaken}
use Rattle.cg_run.specs.declared.file_reader.FileReader.{FileReader}
use Rattle.cg_run.proofs.LetGo.{IsRunKept, due_let_go, none_kept, run_kept, run_renewed, run_settled}
use Rattle.cg_run.proofs.file_reader.FileReaderTextReader.take_run.Goals as goal

pub returns-then-is_err-clause-taken : goal.returns-then-is_err-clause-taken
returns-then-is_err-clause-taken c form taken h =
    let old = c.args.self.now in
    let new : FileReader = record { alloc = old.alloc; kind = old.kind; reader = old.reader; text = c.try_reserve.new.self; before = old.before } in
    let front = c.front_of-front.result.now in
    subst (λ bytes. IsRunTaken (KindFile form) (IsSettled new form) taken bytes c.starved.result) c.front_of-front.ensures
    (none_kept old new form taken front c.starved.result refl refl refl c.try_reserve.ensures.items c.starved.ensures.none c.starved.ensures.stops h)

pub returns-then-is_due-clause-taken : goal.returns-then-is_due-clause-taken
returns-then-is_due-clause-taken c form taken h =
    let old = c.args.self.now in
    let mid : FileReader = record { alloc = old.alloc; kind = old.kind; reader = c.push_run-run.new.self; text = c.extend_from_slice.new.self; before = old.before } in
    let front = c.front_of-front.result.now in
    let step : IsRunKept old mid front c.push_run-run.result = record {
      kind = refl;
      before = refl;
      text = c.in-Ok.ensures.items ∙ ap₂ (λ (t u : List ℕ). t ++ u) c.try_reserve.ensures.items c.split_at.ensures.front;
      pushed = c.push_run-run.ensures.pushed;
      held = c.push_run-run.ensures.held;
      within = c.push_run-run.ensures.within;
    } in
    subst (λ bytes. IsRunTaken (KindFile form) (IsSettled c.renew.new.self form) taken bytes c.push_run-run.result) c.front_of-front.ensures
    (run_renewed mid c.renew.new.self form taken front c.push_run-run.result
    (λ kept.
    let go = due_let_go mid form _ kept ((c.is_due.ensures form _ kept).0 c.if-is_due.true) in
    (c.renew.ensures.kept form _ kept go, c.renew.ensures.all form _ kept))
    (run_kept old mid form taken front c.push_run-run.result step h.kept))

pub returns-else-is_due-clause-taken : goal.returns-else-is_due-clause-taken
returns-else-is_due-clause-taken c form taken h =
    let old = c.args.self.now in
    let new : FileReader = record { alloc = old.alloc; kind = old.kind; reader = c.push_run-run.new.self; text = c.extend_from_slice.new.self; before = old.before } in
    let front = c.front_of-front.result.now in
    let step : IsRunKept old new front c.push_run-run.result = record {
      kind = refl;
      before = refl;
      text = c.in-Ok.ensures.items ∙ ap₂ (λ (t u : List ℕ). t ++ u) c.try_reserve.ensures.items c.split_at.ensures.front;
      pushed = c.push_run-run.ensures.pushed;
      held = c.push_run-run.ensures.held;
      within = c.push_run-run.ensures.within;
    } in
    subst (λ bytes. IsRunTaken (KindFile form) (IsSettled new form) taken bytes c.push_run-run.result) c.front_of-front.ensures
    (run_settled old new form taken front c.push_run-run.result step
    (λ kept due.
    let is : c.is_due.result ≡ true = (c.is_due.ensures form _ kept).1 due in
    let other = c.if-is_due.false in
    cc)
    h)
