use mathlib.Core.Path.{refl}
use Rattle.bits.specs.Poly.{times_x}
use Rattle.bits.specs.Table.{table}
use Rattle.field64.specs.Field.{twice_of}
use Rattle.field64.specs.Logarithms.{power, powers}
use Rattle.field64.proofs.power_table.Goals as goal

pub returns : goal.returns
unfolding powers power table twice_of times_x
returns c = refl
