use Rattle.cg_value.specs.SpelledLaws.{limits_text}
use Rattle.cg_value.proofs.spelled.is_limits.Goals as goal

pub returns-then-is_device_name : goal.returns-then-is_device_name
returns-then-is_device_name c =
    let line = limits_text c.args.kernel c.args.line.now in
    let device = c.is_device_name.ensures in
    let limits = c.are_spelled.ensures in
    (λ e. line.0 (device.0 c.if-is_device_name.true, limits.0 e), λ h. limits.1 (line.1 h).1)
