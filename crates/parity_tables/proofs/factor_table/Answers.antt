use mathlib.Core.Path.{refl}
use Rattle.parity_tables.specs.Tables.{factors}
use Rattle.parity_tables.proofs.factor_table.Goals as goal

pub returns : goal.returns
unfolding factors
returns c = refl
