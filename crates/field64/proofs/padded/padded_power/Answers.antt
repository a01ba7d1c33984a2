use mathlib.Core.Path.{refl}
use Rattle.bits.specs.Poly.{times_x}
use Rattle.bits.specs.Table.{table}
use Rattle.field64.specs.Field.{twice_of}
use Rattle.field64.specs.Logarithms.{power}
use Rattle.field64.specs.Padded.{pad_powers, pad_power}
use Rattle.field64.proofs.padded.padded_power.Goals as goal

pub returns : goal.returns
unfolding pad_powers pad_power power table twice_of times_x
returns c = refl
