use Rattle.reading.proofs.contents_at.Goals as goal

pub returns : goal.returns
returns c =
    rw (
      c.codes_of.ensures,
      c.biases_of.ensures,
      c.orbits_of.ensures,
      c.clocks_of.ensures,
      c.mask_of.ensures,
      c.kind_of.ensures,
    )
