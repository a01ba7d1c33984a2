use mathlib.Core.Path.{refl}
use Rattle.bits.specs.Table.{table}
use Rattle.biases.specs.Biases.{no_biases}
use Rattle.biases.proofs.no_biases.Goals as goal

pub returns : goal.returns
unfolding no_biases table
returns c = refl
