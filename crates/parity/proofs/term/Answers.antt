-- The sum of the two logarithms, within a byte, and what stands there.
use Rattle.parity.specs.Unpacked.{term_by}
use Rattle.parity.proofs.term.Goals as goal

pub returns : goal.returns
unfolding term_by
returns c = cc
