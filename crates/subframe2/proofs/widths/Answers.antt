use mathlib.Core.Path.{refl}
use Rattle.bits.specs.Table.{table}
use Rattle.subframe2.specs.Fields.{rows}
use Rattle.subframe2.proofs.widths.Goals as goal

pub returns : goal.returns
unfolding rows table
returns c = refl
