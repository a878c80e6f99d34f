use Rattle.std.proofs.Common.{◌∙◌, ◌≡◌, subst, sym}
use Rattle.std.proofs.lemmas.Result.{err_from_is_err_and}
use Rattle.cg_value.specs.Files.{ReadLines}
use Rattle.cg_line.specs.UpgradingLaws.{raw_plain, raw_some, lines_fault, file_starved, never_refused, read_upgraded}
use Rattle.cg_line.specs.declared.upgrading.UpgradeFault.TheVariants.{OutOfMemory}
use Rattle.cg_line.proofs.upgrading.read_again.Goals as goal

pub read_lines-requires-clause-plain : goal.read_lines-requires-clause-plain
read_lines-requires-clause-plain c = raw_plain c.args.to c.args.entry.now _ c.args.raw.lines.now c.requires

pub read_lines-requires-clause-some : goal.read_lines-requires-clause-some
read_lines-requires-clause-some c = raw_some c.args.to c.args.entry.now _ c.args.raw.lines.now c.requires

pub returns-in_err-value : goal.returns-in_err-value
returns-in_err-value c =
    let e = err_from_is_err_and c.from_residual.result c.from_residual.ensures.1 in
    let same : e.0 ≡ c.in_err-value.field-0.0 = e.2 in
    rw (e.1, same) (lines_fault c.args.to c.args.entry.now c.args.raw.kind c.args.raw.lines.now c.requires c.in_err-value.field-0.0 c.in_err-value.ensures)

pub returns-in-Err : goal.returns-in-Err
returns-in-Err c =
    lines_fault c.args.to c.args.entry.now c.args.raw.kind c.args.raw.lines.now c.requires OutOfMemory
    (file_starved c.args.to c.args.entry.now c.args.raw.kind c.args.raw.lines.now c.requires c.in_ok-value.value c.in_ok-value.ensures)

pub unreachable-requires : goal.unreachable-requires
unreachable-requires c =
    never_refused c.args.to c.args.entry.now c.args.raw.kind c.args.raw.lines.now c.requires c.in-Ok.path.items c.in_ok-value.value c.in-Err-new.field-0.why (c.in-Ok.ensures.items ∙ c.path.ensures.path)
    c.in_ok-value.ensures c.in-Err-new.ensures.err.2

pub returns : goal.returns
returns c =
    read_upgraded c.args.to c.args.entry.now c.args.raw.kind c.args.raw.lines.now c.requires c.in-Ok-new.entry (c.in-Ok-new.ensures.ok.0 ∙ c.in-Ok.ensures.items ∙ c.path.ensures.path)
    (subst (λ v. ReadLines c.args.raw.kind v c.args.raw.lines.now) (sym c.in-Ok-new.ensures.ok.1) c.in_ok-value.ensures)
