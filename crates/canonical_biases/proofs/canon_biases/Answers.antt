use Rattle.canonical_biases.specs.Canon.{canon_biases}
use Rattle.canonical_biases.proofs.canon_biases.Goals as goal

pub returns : goal.returns
unfolding canon_biases
returns c = rw (c.canon_row-biases.ensures, c.bias_count.ensures.0, c.canon_sats-sats.ensures)
