use Rattle.std.proofs.Common.{arith}
use Rattle.std.proofs.lemmas.Grind.{common_steps}
use Rattle.bias_writing.specs.Put.{biases_fit}
use Rattle.bias_writing.proofs.biases_fit.Goals as goal

pub returns-then-sats_fit : goal.returns-then-sats_fit
unfolding biases_fit
returns-then-sats_fit c = grind (arith, common_steps)

pub returns-else-sats_fit : goal.returns-else-sats_fit
unfolding biases_fit
returns-else-sats_fit c = grind (arith, common_steps)
