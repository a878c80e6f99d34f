-- What `clap`'s function gives at words that are written out.
use Rattle.std.proofs.Common.{refl}
use Rattle.clap.proofs.OnLiterals.{clap_on_literals}
use Rattle.cg_program.specs.CommandLine.{cgfile_app}
use Rattle.cg_value.specs.Table.{has_row}
use Rattle.cg_program.specs.Rows.{ExplainRows, FaultRows, GoingOnRows, KnownRows, LimitRows}

pub known_rows : KnownRows
unfolding cgfile_app clap_on_literals has_row
known_rows names = (
  (refl, (refl, refl)),
  (refl, (refl, refl)),
  (refl, (refl, refl)),
  (refl, (refl, refl)),
  (refl, (refl, refl)),
  (refl, (refl, refl)),
)

pub limit_rows : LimitRows
unfolding cgfile_app clap_on_literals
limit_rows names = ((refl, refl), (refl, refl), (refl, refl), (refl, refl))

pub fault_rows : FaultRows
unfolding cgfile_app clap_on_literals
fault_rows names = (refl, refl, refl, refl, refl, refl, refl)

pub explain_rows : ExplainRows
unfolding cgfile_app clap_on_literals
explain_rows names = ((refl, refl), (refl, refl), (refl, refl), (refl, refl), (refl, refl))

pub going_on_rows : GoingOnRows
unfolding cgfile_app clap_on_literals
going_on_rows names = (
  (refl, (refl, refl)),
  (refl, (refl, refl)),
  (refl, (refl, refl)),
  (refl, (refl, refl)),
  (refl, (refl, refl)),
  (refl, (refl, refl)),
  (refl, (refl, refl)),
  (refl, (refl, refl)),
  (refl, (refl, refl)),
)
