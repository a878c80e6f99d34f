use Rattle.std.proofs.Common.{sym, ap, ◌∙◌}
use Rattle.cg_run.specs.FileReader.{lines_alone}
use Rattle.cg_run.proofs.LetGo.{others_depend}
use Rattle.cg_run.proofs.file_reader.has_lines_alone.Goals as goal

pub returns-in_default : goal.returns-in_default
returns-in_default c =
    let arm = c.in_default in
    sym (others_depend c.form.result arm.not-Numbers arm.not-DeviceStats arm.not-DeviceLimits arm.not-DeviceTargets arm.not-DeviceParams arm.not-Raw) ∙ ap lines_alone c.form.ensures.form
