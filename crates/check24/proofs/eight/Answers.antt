use mathlib.Core.Path.{refl}
use Rattle.bits.specs.Poly.{times_x}
use Rattle.bits.specs.Table.{table}
use Rattle.check24.specs.Eight.{shifted, eights}
use Rattle.check24.proofs.eight.Goals as goal

pub returns : goal.returns
unfolding eights shifted table times_x
returns c = refl
