use Rattle.cg_file.specs.Kinds.{TextsOf}
use Rattle.cg_file.specs.contracts.any_file.AnyFileToken.TheImpl.{ghosts}
use Rattle.cg_line.specs.DecodeLaws.{read_as}
use Rattle.cg_line.proofs.decode.read_file.Goals as goal

pub returns : goal.returns
returns c = read_as (ghosts.means c.new.result) (TextsOf c.args.kind) c.new.ensures.spells.is c.args.bytes.now c.read_all.result c.read_all.ensures
