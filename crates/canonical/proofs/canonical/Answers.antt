use Rattle.canonical.specs.Canon.{canon}
use Rattle.canonical.proofs.canonical.Goals as goal

pub returns : goal.returns
unfolding canon
returns c =
    rw (
      c.canon_code_part.ensures,
      c.canon_bias_part.ensures,
      c.canon_orbits.ensures,
      c.canon_clocks.ensures,
      c.canon_mask.ensures,
      c.layout_of-l.ensures,
    )
