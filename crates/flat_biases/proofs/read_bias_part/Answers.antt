use Rattle.flat_biases.specs.Biases.{flat_biases_in}
use Rattle.flat_biases.proofs.read_bias_part.Goals as goal

pub returns : goal.returns
unfolding flat_biases_in
returns c =
    rw (
      c.read_biases-biases.ensures,
      c.read_sats-sats.ensures,
      c.byte-count.ensures,
      c.byte-ssr.ensures,
      c.four-epoch.ensures,
    )
