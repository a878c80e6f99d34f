use Rattle.cg_value.specs.SpelledLaws.{stat_text}
use Rattle.cg_value.proofs.spelled.is_stat.Goals as goal

pub returns-then-is_device_name : goal.returns-then-is_device_name
returns-then-is_device_name c =
    let line = stat_text c.args.kernel c.args.line.now in
    let device = c.is_device_name.ensures in
    let pairs = c.are_stat_pairs.ensures in
    (λ e. line.0 (device.0 c.if-is_device_name.true, pairs.0 e), λ h. pairs.1 (line.1 h).1)
