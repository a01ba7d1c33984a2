use Rattle.flat_biases.proofs.FlatLaws.{last_two}
use Rattle.flat_biases.proofs.put_last_parts.Goals as goal

pub returns : goal.returns
returns c =
    let a = c.args in
    rw (c.put_code_part.ensures, c.put_bias_part.ensures) (last_two a.room.now a.p a.u)
