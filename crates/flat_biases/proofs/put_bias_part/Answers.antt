use Rattle.flat_biases.proofs.FlatLaws.{biases_three}
use Rattle.flat_biases.proofs.put_bias_part.Goals as goal

pub returns : goal.returns
returns c =
    let a = c.args in
    rw (c.put_biases.ensures, c.put_sats.ensures, c.store.ensures, c.bias_head.ensures) (biases_three a.room.now a.p)
