use Rattle.cg_line.specs.PlaceLaws.{place_after}
use Rattle.cg_line.proofs.open_reader.is_in_line.Goals as goal

pub returns : goal.returns
returns c front = place_after front c.args.byte
