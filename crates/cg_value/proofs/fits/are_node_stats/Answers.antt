use Rattle.cg_value.specs.SpelledLaws.{node_stats_text}
use Rattle.cg_value.proofs.fits.are_node_stats.Goals as goal

pub returns-then-is_spelled : goal.returns-then-is_spelled
returns-then-is_spelled c =
    let text = node_stats_text c.args.total c.args.nodes.now in
    (λ e. text.0 (c.is_spelled.ensures.0 c.if-is_spelled.true, c.are_keyed.ensures.0 e), λ h. c.are_keyed.ensures.1 (text.1 h).1)
