use Rattle.std.proofs.Common.{◌≡◌}
use Rattle.std.proofs.lemmas.Result.{err_from_is_err_and}
use Rattle.cg_value.specs.Lines.{unlines}
use Rattle.cg_line.specs.Reads.{reads_viable}
use Rattle.cg_line.specs.SplitLaws.{lines_spell}
use Rattle.cg_line.specs.UpgradingLaws.{lines_whole}
use Rattle.cg_line.proofs.upgrading.read_lines.Goals as goal

pub returns-in_err-take_lines : goal.returns-in_err-take_lines
returns-in_err-take_lines c =
    let e = err_from_is_err_and c.from_residual.result c.from_residual.ensures.1 in
    let same : e.0 ≡ c.in_err-take_lines.field-0.0 = e.2 in
    rw (e.1, same) (c.in_err-take_lines.ensures c.args.kind c.new-reader.ensures.reads c.requires.plain)

pub unreachable-requires : goal.unreachable-requires
unreachable-requires c =
    let lines = c.args.lines.now in
    let taken = c.in_ok-take_lines.ensures c.args.kind c.new-reader.ensures.reads c.requires.plain in
    (c.in-Err.ensures c.args.kind (unlines lines) taken).1 (lines_whole c.args.kind lines c.requires.some (reads_viable c.take_lines.new.reader c.args.kind (unlines lines) taken))

pub returns : goal.returns
returns c =
    let lines = c.args.lines.now in
    lines_spell c.args.kind c.in-Ok.value lines c.requires.plain (c.in-Ok.ensures c.args.kind (unlines lines) (c.in_ok-take_lines.ensures c.args.kind c.new-reader.ensures.reads c.requires.plain))
