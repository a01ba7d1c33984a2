use mathlib.Core.Path.{refl}
use Rattle.bits.specs.Poly.{times_x}
use Rattle.bits.specs.Table.{table}
use Rattle.field64.specs.Field.{twice_of}
use Rattle.field64.specs.Logarithms.{log_from, logs}
use Rattle.field64.proofs.log_table.Goals as goal

pub returns : goal.returns
unfolding logs log_from table twice_of times_x
returns c = refl
