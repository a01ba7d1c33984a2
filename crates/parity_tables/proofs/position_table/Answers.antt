use mathlib.Core.Path.{refl}
use Rattle.parity_tables.specs.Tables.{positions}
use Rattle.parity_tables.proofs.position_table.Goals as goal

pub returns : goal.returns
unfolding positions
returns c = refl
